-- Where the strips of a medium stand in a memory: strip after strip, frame after frame, each of w bytes, n strips to a frame.
--   size_of    how many bytes fs frames take
--   strip_at   where strip s of frame f starts
-- Assumes nothing.
use Rattle.std.specs.Prelude.{ℕ, ◌+◌, ◌*◌}

abbrev pub size_of : ℕ → ℕ → ℕ → ℕ
size_of fs n w = fs * n * w

abbrev pub strip_at : ℕ → ℕ → ℕ → ℕ → ℕ
strip_at n w f s = (f * n + s) * w
