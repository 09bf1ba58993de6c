-- The published code keeps what a reel takes for granted: from the theory of the code, law by law. Assumes nothing.
use Rattle.std.proofs.Common.{◌≡◌, ℕ, ◌-◌, ◌*◌, ◌≤◌, List, length, sym, ap, ◌∙◌, mul-le-mul_right, arith}
use Rattle.std.proofs.lemmas.List.{length-take-le}
use Rattle.laws.specs.Ops.{Ops, Laws}
use Rattle.geometry.specs.Rule.{Rule}
use Rattle.algebra.specs.Frames.{FrameOf, record_size}
use Rattle.algebra.specs.Showings.{reading}
use Rattle.algebra.proofs.Fitting.{fit_unique, frame_unique}
use Rattle.algebra.proofs.Clean.{exact_fits}
use Rattle.fitting.specs.Marks.{silent_limit}
use Rattle.kept.specs.Code.{Lawful}
use Rattle.kept.specs.CodeOf.{code_of}
use Rattle.kept.proofs.Agree.{agree_gone, agree_doubtful, agree_changed, agree_fits}

module _ (F : Ops) (L : Laws F) (m n c : ℕ) (rule : Rule F.order m n c) where
  record_long : (rec xs : List ℕ) → FrameOf F m n c rec xs → length rec ≡ record_size m n c
  record_long rec xs f =
      let whole : length xs ≡ n * m = f.frame.size in
      let part : (n - c) * m ≤ n * m = mul-le-mul_right m (let h : n - c ≤ n = omega arith in h) in
      ap length (sym f.begins) ∙ length-take-le ((n - c) * m) xs (omega arith)

  pub lawful : Lawful (code_of F m n c)
  lawful = record {
    some_squares = rule.0;
    record_long = record_long;
    record_front = λ rec xs f. sym f.begins;
    frame_long = λ rec xs f. f.frame.size;
    frame_codes = λ rec xs f. f.frame.codes;
    one_frame = λ rec xs ys f g. frame_unique F L m n c rule rec xs ys f g;
    one_fit = λ seen rec sec xs ys p q. fit_unique F L m n c rule silent_limit (reading F.order seen) xs ys p.frame.frame q.frame.frame p.fit q.fit;
    fits_few = λ seen rec xs p. (omega (arith, p.fit.strips), omega (arith, p.fit.squares));
    agree_gone = λ v w a. agree_gone F.order m n rule.0 v w a;
    agree_doubtful = λ v w a. agree_doubtful F.order m n rule.0 v w a;
    agree_changed = λ v w a. agree_changed F.order m n rule.0 v w a;
    agree_fits = λ v w a. agree_fits F.order m n rule.0 v w a silent_limit c;
    exact = λ seen rec xs f s. (exact_fits F m n c rule silent_limit seen xs f.frame s).fits;
  }
