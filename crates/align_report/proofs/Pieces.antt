-- Pieces of changed bytes, one after another.
use Rattle.std.proofs.Common.{◌≡◌, inl, inr, ℕ, ◌+◌, ◌-◌, ◌^◌, ◌<◌, ◌≤◌, Bool, true, false, ◌&&◌, ◌||◌, nat_le, List, [], ◌∷◌, ◌++◌, add-one, append-nil, append_assoc, drop, drop-cons, get_or, length, min, refl, sym, ◌∙◌, ap, subst, arith}
use Rattle.std.proofs.lemmas.Bool.{cases_eq, cases_lt}
use Rattle.std.proofs.lemmas.Bool.Decides.{nat_tests}
use Rattle.test_states.specs.declared.range.Range.{Range}
use Rattle.test_states.specs.Ranges.{AreApart, is_covered, range_has}
use Rattle.align_report.specs.Changes.{ArePieces, ChangedFrom, EndsRun, IsPiece, SameFrom, piece_line, piece_lines}
use Rattle.align_report.specs.Writing.{AppendsChanges, AppendsPieces, ArePiecesTo, AreSameOutside}

piece_lines-append : (memory : ℕ → ℕ) (ps qs : List (ℕ × ℕ)) → piece_lines memory (ps ++ qs) ≡ piece_lines memory ps ++ piece_lines memory qs
piece_lines-append memory [] qs = refl
piece_lines-append memory (p ∷ ps) qs = ap (λ t. piece_line memory p.0 p.1 ++ t) (piece_lines-append memory ps qs) ∙ sym (append_assoc (piece_line memory p.0 p.1) (piece_lines memory ps) (piece_lines memory qs))

module _ (old new : ℕ → ℕ) where
  pieces_gap : (a b c : ℕ) (ps : List (ℕ × ℕ)) → ArePiecesTo old new a ps b → b ≤ c → SameFrom old new b c → ArePiecesTo old new a ps c
  pieces_gap a b c [] are less same = (
    omega (arith, are.0),
    λ x low high. elim (cases_lt x b) [
      | inl before ↦ are.1 x low before
      | inr behind ↦ same x behind high
    ],
  )
  pieces_gap a b c (p ∷ ps) are less same = (are.0, are.1, are.2, pieces_gap (p.0 + p.1) b c ps are.3 less same)

  later_begin : (a b c : ℕ) (ps : List (ℕ × ℕ)) → a ≤ b → SameFrom old new a b → ArePiecesTo old new b ps c → ArePiecesTo old new a ps c
  later_begin a b c [] less same are = (
    omega (arith, are.0),
    λ x low high. elim (cases_lt x b) [
      | inl before ↦ same x low before
      | inr behind ↦ are.1 x behind high
    ],
  )
  later_begin a b c (p ∷ ps) less same are = (
    omega (arith, are.0),
    (λ x low high. elim (cases_lt x b) [
      | inl before ↦ same x low before
      | inr behind ↦ are.1 x behind high
    ]),
    are.2,
    are.3,
  )

  pieces_join : (a b c : ℕ) (ps qs : List (ℕ × ℕ)) → ArePiecesTo old new a ps b → ArePiecesTo old new b qs c → ArePiecesTo old new a (ps ++ qs) c
  pieces_join a b c [] qs are more = later_begin a b c qs are.0 are.1 more
  pieces_join a b c (p ∷ ps) qs are more = (are.0, are.1, are.2, pieces_join (p.0 + p.1) b c ps qs are.3 more)

  none_between : (a x : ℕ) → a ≤ x → x < a → old x ≡ new x
  none_between a x low high = absurd (omega arith)

  pieces_all : (a b : ℕ) (ps : List (ℕ × ℕ)) → ArePiecesTo old new a ps b → SameFrom old new b (2 ^ 64) → ArePieces old new a ps
  pieces_all a b [] are same = λ x low high. elim (cases_lt x b) [
    | inl before ↦ are.1 x low before
    | inr behind ↦ same x behind high
  ]
  pieces_all a b (p ∷ ps) are same = (are.0, are.1, are.2, pieces_all (p.0 + p.1) b ps are.3 same)

  -- nothing was appended yet
  pub appends_none : (at : ℕ) (text : List ℕ) → AppendsPieces old new at at text text
  appends_none at text = record { pieces = []; are = (omega arith, λ x low high. none_between at x low high); lines = sym (append-nil text) }

  -- a byte that is the same is passed
  pub appends_skip : (from at : ℕ) (before after : List ℕ) → AppendsPieces old new from at before after → old at ≡ new at
      → AppendsPieces old new from (at + 1) before after
  appends_skip from at before after p same = record {
    pieces = p.pieces;
    are = pieces_gap from at (at + 1) p.pieces p.are (omega arith) (λ x low high. (let e : x ≡ at = omega arith in rw e same));
    lines = p.lines;
  }

  -- a piece more
  pub appends_piece : (from at n : ℕ) (before after more : List ℕ) → AppendsPieces old new from at before after → IsPiece old new at n
      → more ≡ after ++ piece_line new at n → AppendsPieces old new from (at + n) before more
  appends_piece from at n before after more p is e = record {
    pieces = p.pieces ++ (at, n) ∷ [];
    are = pieces_join from at (at + n) p.pieces ((at, n) ∷ []) p.are (omega arith, (λ x low high. none_between at x low high), is, (omega arith, λ x low high. none_between (at + n) x low high));
    lines = e ∙ ap (λ t. t ++ piece_line new at n) p.lines ∙ append_assoc before (piece_lines new p.pieces) (piece_line new at n)
        ∙ ap (λ t. before ++ t) (ap (λ t. piece_lines new p.pieces ++ t) (sym (append-nil (piece_line new at n))) ∙ sym (piece_lines-append new p.pieces ((at, n) ∷ [])));
  }

  -- so many changed bytes from an address on, up to the first that has not changed, are a piece
  pub piece_of : (at n most end : ℕ) → 0 < n → n ≤ most → most ≡ min (end - at) 32 → at < end → end ≤ 2 ^ 64 → ChangedFrom old new at (at + n)
      → (n < most → old (at + n) ≡ new (at + n)) → EndsRun old new end → IsPiece old new at n
  piece_of at n most end some few is before within changed stops ends = record {
    some = some;
    few = omega arith;
    within = omega arith;
    changed = changed;
    whole = λ short. elim (cases_lt n most) [
      | inl less ↦ inr (stops less)
      | inr all ↦ (let e : end ≡ at + n = omega arith in subst (λ x. EndsRun old new x) e ends)
    ];
  }

  -- The lines of the ranges that were read: up to an address from which on the ranges to come lie, and behind which no byte
  -- outside of these has changed.
  pub record Writes (before after : List ℕ) (rest : List Range) : Type 0 where
    pub to : ℕ
    pub so_far : AppendsPieces old new 0 to before after
    pub apart : AreApart to rest (2 ^ 64 + 1)
    pub same : (x : ℕ) → to ≤ x → x < 2 ^ 64 → is_covered rest x ≡ false → old x ≡ new x

  pub writes_none : (text : List ℕ) (ranges : List Range) → AreApart 0 ranges (2 ^ 64 + 1) → AreSameOutside ranges old new → Writes text text ranges
  writes_none text ranges apart same = record { to = 0; so_far = appends_none 0 text; apart = apart; same = λ x low. same x }

  not_covered_before : (from to : ℕ) (ranges : List Range) (x : ℕ) → AreApart from ranges to → x < from → is_covered ranges x ≡ false
  not_covered_before from to [] x apart below = refl
  not_covered_before from to (r ∷ rs) x apart below =
      or_none (range_has x r) (is_covered rs x) (out r.first r.last x (omega (arith, apart.0))) (not_covered_before (r.last + 2) to rs x apart.2 (omega (arith, apart.0, apart.1)))
    where
      out : (a b x : ℕ) → x < a → (nat_le a x && nat_le x b) ≡ false
      out a b x h = grind (arith, nat_tests)

      or_none : (b c : Bool) → b ≡ false → c ≡ false → (b || c) ≡ false
      or_none true c h k = h
      or_none false c h k = k

  past : (a b x : ℕ) → b < x → (nat_le a x && nat_le x b) ≡ false
  past a b x h = grind (arith, nat_tests)

  or_both : (b c : Bool) → b ≡ false → c ≡ false → (b || c) ≡ false
  or_both true c h k = h
  or_both false c h k = k

  apart_within : (from to : ℕ) (ranges : List Range) → AreApart from ranges to → from ≤ to
  apart_within from to [] apart = apart
  apart_within from to (r ∷ rs) apart = omega (arith, apart.0, apart.1, apart_within (r.last + 2) to rs apart.2)

  -- behind a range no run goes on
  pub range_ends_run : (before after : List ℕ) (r : Range) (rest : List Range) → Writes before after (r ∷ rest) → EndsRun old new (r.last + 1)
  range_ends_run before after r rest w = let small : r.last + 2 ≤ 2 ^ 64 + 1 = apart_within (r.last + 2) (2 ^ 64 + 1) rest w.apart.2 in elim (cases_eq (r.last + 1) (2 ^ 64)) [
    | inl end ↦ inl end
    | inr inside ↦ inr (w.same (r.last + 1) (omega (arith, w.apart.0, w.apart.1)) (omega arith)
        (or_both (range_has (r.last + 1) r) (is_covered rest (r.last + 1)) (past r.first r.last (r.last + 1) (omega arith))
        (not_covered_before (r.last + 2) (2 ^ 64 + 1) rest (r.last + 1) w.apart.2 (omega arith))))
  ]

  apart_sooner : (from sooner to : ℕ) (ranges : List Range) → sooner ≤ from → AreApart from ranges to → AreApart sooner ranges to
  apart_sooner from sooner to [] less apart = omega (arith, apart)
  apart_sooner from sooner to (r ∷ rs) less apart = (omega (arith, apart.0), apart.1, apart.2)

  -- a range more
  pub writes_range : (before after more : List ℕ) (r : Range) (rest : List Range) → Writes before after (r ∷ rest)
      → AppendsPieces old new r.first (r.last + 1) after more → Writes before more rest
  writes_range before after more r rest w p = record {
    to = r.last + 1;
    so_far = record {
      pieces = w.so_far.pieces ++ p.pieces;
      are = pieces_join 0 r.first (r.last + 1) w.so_far.pieces p.pieces
          (pieces_gap 0 w.to r.first w.so_far.pieces w.so_far.are w.apart.0 (λ x low high. w.same x low (omega (arith, w.apart.1, apart_within (r.last + 2) (2 ^ 64 + 1) rest w.apart.2))
          (not_covered_before r.first (2 ^ 64 + 1) (r ∷ rest) x (omega arith, w.apart.1, w.apart.2) high)))
          p.are;
      lines = p.lines ∙ ap (λ t. t ++ piece_lines new p.pieces) w.so_far.lines ∙ append_assoc before (piece_lines new w.so_far.pieces) (piece_lines new p.pieces)
          ∙ ap (λ t. before ++ t) (sym (piece_lines-append new w.so_far.pieces p.pieces));
    };
    apart = apart_sooner (r.last + 2) (r.last + 1) (2 ^ 64 + 1) rest (omega arith) w.apart.2;
    same = λ x low high not. w.same x (omega (arith, w.apart.0, w.apart.1)) high
        (or_both (range_has x r) (is_covered rest x) (past r.first r.last x (omega arith)) not);
  }

  -- all ranges were read
  pub writes_all : (before after : List ℕ) → Writes before after [] → AppendsChanges old new before after
  writes_all before after w = record {
    pieces = w.so_far.pieces;
    are = pieces_all 0 w.to w.so_far.pieces w.so_far.are (λ x low high. w.same x low high refl);
    lines = w.so_far.lines;
  }

-- the next of some ranges, and those behind it
pub next_range : (ranges : List Range) (i : ℕ) (d : Range) → i < length ranges → drop i ranges ≡ get_or ranges i d ∷ drop (i + 1) ranges
next_range ranges i d below = rw (add-one, drop-cons ranges i d)
