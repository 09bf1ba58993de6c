-- What the search settled is what correction answers: a frame that fits begins with a record, and no cause of a refusal but the
-- last is left. Assumes nothing.
use Rattle.std.proofs.Common.{◌≡◌, ℕ, ◌-◌, ◌*◌, ◌<◌, ◌≤◌, List, [], ◌∷◌, length, take, Some, None, Option, Ok, Result, refl, subst, inl, inr, mul-le-mul_right, arith, get_or-take, MatchResult}
use Rattle.std.proofs.lemmas.List.{length-take-le}
use Rattle.std.specs.Option.{ok_or}
use Rattle.refusal.specs.declared.Refusal.{Refusal}
use Rattle.refusal.specs.declared.Refusal.TheVariants.{NoFit}
use Rattle.refusal.specs.Outcome.{Outcome}
use Rattle.laws.specs.Ops.{Ops}
use Rattle.geometry.specs.declared.Geometry.{Geometry}
use Rattle.algebra.specs.Frames.{IsFrame, IsRecord, FrameOf, record_size}
use Rattle.algebra.specs.Showings.{Showing, gone_strips, doubtful_squares, Fits}
use Rattle.fitting.specs.declared.counts.Counts.{Counts}
use Rattle.fitting.specs.declared.reading.Shown.{Shown}
use Rattle.fitting.specs.declared.reading.Reading.{Reading}
use Rattle.fitting.specs.Marks.{silent_limit}
use Rattle.fitting.specs.Lengths.{OfSize, no_reading}
use Rattle.fitting.specs.Reading.{IsReadingOf, showing_of}
use Rattle.attempts.specs.Shown.{shows}
use Rattle.attempts.specs.Attempts.{Ready, Settled}
use Rattle.corrector.specs.Corrects.{no_correct, Corrected}

-- a frame is the frame of the record that it begins with
begins_record : (F : Ops) (m n c : ℕ) (xs : List ℕ) → IsFrame F m n c xs → IsRecord F m n c (take (record_size m n c) xs)
begins_record F m n c xs frame =
    let few : n - c ≤ n = omega arith in
    let up : (n - c) * m ≤ n * m = mul-le-mul_right m few in
    let size : length (take (record_size m n c) xs) ≡ record_size m n c = length-take-le (record_size m n c) xs (omega (arith, frame.size)) in
    record { size = size; codes = λ i l. rw (get_or-take (record_size m n c) xs i 0 (omega arith)) (frame.codes i (omega (arith, frame.size))) }

-- a frame that fits, or none, where all tests were passed
settled_granted : (F : Ops) (order m n c : ℕ) (w : Showing) (codes strips squares before after : List ℕ) → order ≡ F.order → OfSize m n codes strips squares → length before ≡ n * m → gone_strips n w < c → doubtful_squares m n w ≤ m
    → (found : Option Counts) → Settled F m n c w before after found
    → (r : Result Counts Refusal) → r ≡ ok_or found NoFit
    → Outcome (no_correct F order m n c w codes strips squares before) (after ≡ before) (Corrected F m n c w after r) r
settled_granted F order m n c w codes strips squares before after order_is sized size gone doubtful found settled r r_is = inr (
  λ ne. ne order_is,
  inr (
    λ s. elim s [ inl e ↦ e sized.codes_size | inr (inl e) ↦ e sized.strips_size | inr (inr (inl e)) ↦ e sized.squares_size | inr (inr (inr e)) ↦ e size ],
    inr (λ l. omega arith, inr (λ l. omega arith, last found settled r_is)),
  ),
)
  where
    last : (found : Option Counts) → Settled F m n c w before after found → r ≡ ok_or found NoFit
        → Outcome ((NoFit, (symbols xs : List ℕ) → FrameOf F m n c symbols xs → Fits silent_limit m n c w xs → ⊥) ∷ []) (after ≡ before) (Corrected F m n c w after r) r
    last None s e = inl (λ symbols xs frame fits. s.0 xs frame.frame fits, e, s.1)
    last (Some k) s e = inr (
      λ none. none (take (record_size m n c) after) after (record { frame = s.frame; begins = refl }) s.fits,
      record {
        symbols = take (record_size m n c) after;
        is_record = begins_record F m n c after s.frame;
        frame = record { frame = s.frame; begins = refl };
        fits = s.fits;
        counts = k;
        counted = s.counted;
        value = e;
      },
    )

abbrev Granted : Ops → ℕ → Geometry → Shown → List ℕ → List ℕ → Result Counts Refusal → Type 0
Granted F q g s before after r =
    Outcome (no_correct F g.order g.squares g.strips g.checks (shows q s.codes.now s.strip_marks.now s.square_marks.now) s.codes.now s.strip_marks.now s.square_marks.now before)
    (after ≡ before) (Corrected F g.squares g.strips g.checks (shows q s.codes.now s.strip_marks.now s.square_marks.now) after r) r

-- a reading that was not refused is one of what is shown
pub read : (F : Ops) (g : Geometry) (s : Shown) (r : Reading)
    → Outcome (no_reading g.order F.order g.squares g.strips s.codes.now s.strip_marks.now s.square_marks.now) Unit (MatchResult {E = Refusal} (Ok r) (IsReadingOf F.order g s) (λ _. ⊥)) (Ok r)
    → IsReadingOf F.order g s r
read F g s r (inl (_, e, _)) = cc
read F g s r (inr (_, inl (_, e, _))) = cc
read F g s r (inr (_, inr (_, is))) = is

pub granted : (F : Ops) (g : Geometry) (s : Shown) (r : Reading) → IsReadingOf F.order g s r → (before after : List ℕ) → Ready F r → length before ≡ r.geometry.strips * r.geometry.squares
    → (found : Option Counts) → Settled F r.geometry.squares r.geometry.strips r.geometry.checks (showing_of r) before after found
    → (result : Result Counts Refusal) → result ≡ ok_or found NoFit
    → Outcome (no_correct F g.order g.squares g.strips g.checks (shows F.order s.codes.now s.strip_marks.now s.square_marks.now) s.codes.now s.strip_marks.now s.square_marks.now before)
    (after ≡ before) (Corrected F g.squares g.strips g.checks (shows F.order s.codes.now s.strip_marks.now s.square_marks.now) after result) result
granted F g s r is before after ready size found settled result result_is =
    subst (λ (t : Shown). Granted F F.order g t before after result) is.shown_is
    (subst (λ (h : Geometry). Granted F F.order h r.shown before after result) is.geometry_is
    (subst (λ (q : ℕ). Granted F q r.geometry r.shown before after result) ready.order_is
    (settled_granted F r.geometry.order r.geometry.squares r.geometry.strips r.geometry.checks (showing_of r) r.shown.codes.now r.shown.strip_marks.now r.shown.square_marks.now before after
    ready.order_is r.sized size ready.gone ready.doubtful found settled result result_is)))
