-- A site and its chosen squares, as the theory of errors sees them. Assumes nothing.
use Rattle.std.proofs.Common.{◌≡◌, ℕ, zero, suc, ◌+◌, ◌-◌, ◌*◌, ◌/◌, ◌<◌, ◌≤◌, Bool, true, false, List, ◌∷◌, map, length, get_or, set, drop, sym, ap, ◌∙◌, subst, inl, inr, div-lt_iff_lt-mul, arith, length-drop, length-set, get_or-drop}
use Rattle.std.proofs.lemmas.List.{ext_get_or, length-map, get_or-map}
use Rattle.std.proofs.lemmas.List.FromFn.{length-map-range_with_len, get_or-map-range_with_len}
use Rattle.std.specs.List.{range_with_len}
use Rattle.refusal.specs.Codes.{Below}
use Rattle.laws.specs.Ops.{Ops, Laws, less}
use Rattle.geometry.specs.Rule.{Rule}
use Rattle.geometry.specs.declared.Geometry.{Geometry}
use Rattle.algebra.specs.Frames.{strip_locator, square_locator}
use Rattle.algebra.specs.Showings.{count}
use Rattle.solver.specs.Sums.{marked, Row, fold_of}
use Rattle.frame.specs.Tables.{Powers}
use Rattle.frame.proofs.Sizes.{Small, small}
use Rattle.correction.specs.Nearing.{Ahead, Near, Held, Site, Listed, Decodes, gaps}
use Rattle.correction.proofs.Sites.{site_row, fold_code}
use Rattle.correction.proofs.Steps.{count_set, error_found, nearer}
use Rattle.candidates.specs.Chosen.{Chosen}

module _ (F : Ops) (L : Laws F) (g : Geometry) (order : g.order ≡ F.order) where
  pub rule_at : Rule F.order g.squares g.strips g.checks
  rule_at = subst (λ (z : ℕ). Rule z g.squares g.strips g.checks) order g.rule

  pub small_at : Small g.squares g.strips g.checks
  small_at = small F.order g.squares g.strips g.checks L.order_most rule_at

  pub site_at : (strips : List ℕ) (gone : List Bool) → length strips ≡ g.strips → Powers F F.generator strips → length gone ≡ g.strips → count g.strips (marked gone) < g.checks
      → Site F g.squares g.strips g.checks strips gone
  site_at strips gone size powers marks room = record { rule = rule_at; size = size; powers = powers; marks = marks; room = room }

module _ (m n : ℕ) where
  pub strip_there : (square : ℕ) (ahead : List ℕ) → 1 ≤ m → Chosen m n (square ∷ ahead) → square / m < n
  strip_there square ahead some chosen = (div-lt_iff_lt-mul some).1 (chosen.places 0 (omega arith))

  pub chosen_behind : (k : ℕ) (squares : List ℕ) → Chosen m n squares → Chosen m n (drop k squares)
  chosen_behind k squares chosen = record {
    few = omega (arith, chosen.few, length-drop k squares);
    places = λ i l. subst (λ (z : ℕ). z < n * m) (sym (get_or-drop k squares i 0)) (chosen.places (k + i) (omega (arith, length-drop k squares)));
    apart = λ i j li lj e. let r = chosen.apart (k + i) (k + j) (omega (arith, length-drop k squares)) (omega (arith, length-drop k squares)) (sym (get_or-drop k squares i 0) ∙ e ∙ get_or-drop k squares j 0) in omega arith;
  }

  pub chosen_listed : (F : Ops) (squares : List ℕ) → Chosen m n squares → Listed F m n squares (map (square_locator F) squares)
  chosen_listed F squares chosen = record {
    few = chosen.few;
    size = length-map squares (square_locator F);
    places = chosen.places;
    located = λ i l. get_or-map (square_locator F) squares i 0 0 l;
    apart = chosen.apart;
  }

-- a place behind the first square
behind : (square : ℕ) (ahead : List ℕ) (p i : ℕ) → 1 ≤ i → i < length (square ∷ ahead) → get_or (square ∷ ahead) i 0 ≡ p → Ahead ahead 0 p
behind square ahead p zero some l e = absurd (omega arith)
behind square ahead p (suc i) some l e = (i, omega arith, omega arith, e)

-- with the first square's error gone, that square might as well not be listed
pub near_behind : (F : Ops) (m n c : ℕ) (gone wrong : ℕ → Bool) (square : ℕ) (ahead xs ys : List ℕ) → Near F m n c gone wrong (square ∷ ahead) 1 xs ys → Near F m n c gone wrong ahead 0 xs ys
near_behind F m n c gone wrong square ahead xs ys near = record {
  frame = near.frame;
  room = near.room;
  agrees = λ p lp. elim (near.agrees p lp) [
    | inl e ↦ inl e
    | inr (inl h) ↦ inr (inl h)
    | inr (inr (inl h)) ↦ inr (inr (inl h))
    | inr (inr (inr (i, li, lu, e))) ↦ inr (inr (inr (behind square ahead p i li lu e)))
  ];
}

-- what the row decoder asks where one strip more counts as erased, and what it finds there
module _ (F : Ops) (L : Laws F) (m n c : ℕ) (strips : List ℕ) (gone : List Bool) (site : Site F m n c strips gone) (square : ℕ) (ahead : List ℕ) (chosen : Chosen m n (square ∷ ahead))
    (points : List ℕ) (points_size : length points ≡ length ahead) (points_are : (i : ℕ) → i < length ahead → get_or points i 0 ≡ square_locator F (get_or ahead i 0))
    (table sums : List ℕ) (codes : Below F.order table) (sums_size : length sums ≡ c)
    (sums_are : (i : ℕ) → i < length sums → get_or sums i 0 ≡ fold_of F points (λ h. get_or table (h * c + i) 0) (length points) 0) where
  pub row_at : Row F strips sums (set gone (square / m) true)
  row_at =
      let there = strip_there m n square ahead site.rule.0 chosen in
      let more = count_set n gone (square / m) (omega (arith, site.marks)) in
      site_row F L m n c strips sums gone (set gone (square / m) true) site (λ i l. rw (sums_are i l) (fold_code F L points table c i codes (length points) 0))
      sums_size (length-set gone (square / m) true ∙ site.marks) (omega (arith, site.room))

  pub error_at : (out : List ℕ) → Below F.order out → Decodes F strips sums (set gone (square / m) true) out → (xs : List ℕ) → Held F m n c xs table
      → (wrong : ℕ → Bool) (ys : List ℕ) → Near F m n c (marked gone) wrong (square ∷ ahead) 0 xs ys → marked gone (square / m) ≡ false → wrong (square / m) ≡ false
      → F.mul (get_or out (square / m) 0) (F.inv (gaps F points (square_locator F square) (length points))) ≡ less F (get_or xs square 0) (get_or ys square 0)
  error_at out below is xs held = error_found F L m n c strips gone site (square ∷ ahead) (map (square_locator F) (square ∷ ahead)) (chosen_listed m n F (square ∷ ahead) chosen) 0 (omega arith)
      points (omega arith) (λ i l. points_are i (omega arith) ∙ sym (get_or-map (square_locator F) ahead i 0 0 (omega arith)) ∙ ap (λ t. get_or (map (square_locator F) (square ∷ ahead)) t 0) (let e : suc i ≡ 1 + i = omega arith in e))
      xs table sums held sums_size (λ i l. sums_are i (omega arith)) out below is

-- the locators of n strips
abbrev pub strips_of : Ops → ℕ → List ℕ
strips_of F n = map (strip_locator F) (range_with_len 0 n)

pub strips_site : (F : Ops) (m n c : ℕ) → Rule F.order m n c → (gone : List Bool) → length gone ≡ n → count n (marked gone) < c → Site F m n c (strips_of F n) gone
strips_site F m n c rule gone marks room = record {
  rule = rule;
  size = length-map-range_with_len (strip_locator F) 0 n;
  powers = λ j l. get_or-map-range_with_len (strip_locator F) 0 n j j 0 (omega (arith, length-map-range_with_len (strip_locator F) 0 n)) (omega arith);
  marks = marks;
  room = room;
}

-- and with that error taken away the array is nearer
pub nearer_at : (F : Ops) → Laws F → (m n c : ℕ) → Rule F.order m n c → (gone : List Bool) → length gone ≡ n → count n (marked gone) < c → (square : ℕ) (ahead : List ℕ) → Chosen m n (square ∷ ahead)
    → (xs ys table : List ℕ) (x : ℕ) → Held F m n c xs table → (wrong : ℕ → Bool) → Near F m n c (marked gone) wrong (square ∷ ahead) 0 xs ys
    → (marked gone (square / m) ≡ false → wrong (square / m) ≡ false → x ≡ less F (get_or xs square 0) (get_or ys square 0))
    → Near F m n c (marked gone) wrong ahead 0 (set xs square (less F (get_or xs square 0) x)) ys
nearer_at F L m n c rule gone marks room square ahead chosen xs ys table x held wrong near found =
    near_behind F m n c (marked gone) wrong square ahead (set xs square (less F (get_or xs square 0) x)) ys
    (nearer F L m n c (strips_of F n) gone (strips_site F m n c rule gone marks room) (square ∷ ahead) (map (square_locator F) (square ∷ ahead)) (chosen_listed m n F (square ∷ ahead) chosen) 0 (omega arith)
    (map (square_locator F) ahead) (length-map ahead (square_locator F) ∙ (let e : length ahead ≡ suc (length ahead) - 1 = omega arith in e))
    (λ i l. ap (λ t. get_or (map (square_locator F) (square ∷ ahead)) t 0) (let e : suc i ≡ 1 + i = omega arith in e))
    xs ys x held.size held.below wrong near found)

-- there is only one list of locators of a length
pub same_powers : (F : Ops) (x n : ℕ) (xs ys : List ℕ) → length xs ≡ n → length ys ≡ n → Powers F x xs → Powers F x ys → xs ≡ ys
same_powers F x n xs ys ex ey px py = ext_get_or 0 xs ys (ex ∙ sym ey) (λ i l. px i l ∙ sym (py i (omega arith)))
