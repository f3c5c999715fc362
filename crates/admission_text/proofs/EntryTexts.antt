-- What the code reads of lines, against the grammar.
use Rattle.std.proofs.Common.{◌≡◌, ◌≢◌, ℕ, ◌%◌, ◌^◌, ◌<◌, ◌≤◌, ◌⊎◌, inl, inr, Bool, true, false, ◌&&◌, ◌||◌, cond, eqb, leb, ltb, not, List, [], ◌∷◌, length, Option, Some, None, is_none, codes, refl, sym, ap, ◌∙◌, subst, arith}
use Rattle.std.specs.List.{list_all, AllZip}
use Rattle.std.specs.Str.{bytes_eq}
use Rattle.std.proofs.lemmas.Bool.{agree_below_at, and_parts, and_from, both_ways, not-false, eqb-true, eqb-false, eq-eqb, ne_eqb, le-leb, leb-true, lt-ltb, ltb-true, or_cases, or_left, or_parts, or_right}
use Rattle.std.proofs.lemmas.Option.{same_Some}
use Rattle.std.proofs.lemmas.Slice.Eq.{bytes_eq-Decides}
use Rattle.insn_ops.specs.declared.output.Output.{Output}
use Rattle.admission.specs.declared.expr.Expr.{Expr}
use Rattle.admission.specs.declared.admission.Rel.{Rel}
use Rattle.admission.specs.declared.admission.Rel.TheVariants.{Eq, Ne, Lt, Le, Slt, Sle}
use Rattle.admission.specs.declared.admission.Need.{Need}
use Rattle.admission.specs.declared.admission.Need.TheVariants.{Compare, Modulo}
use Rattle.admission.specs.declared.admission.RegionLine.{RegionLine}
use Rattle.admission.specs.WellFormed.{IsModulus}
use Rattle.admission_text.specs.declared.entry.Draft.{Draft}
use Rattle.admission_text.specs.declared.entry.Entry.{Entry}
use Rattle.admission_text.specs.declared.entry.Entry.TheVariants as entries
use Rattle.admission_text.specs.declared.entry.Keyword.{Keyword}
use Rattle.admission_text.specs.declared.entry.Keyword.TheVariants as words
use Rattle.admission_text.specs.Names.{IsNumberText, IsOutputText}
use Rattle.text_parts.specs.Cuts.{parts, ◌>>=◌, first_by, first_part, five_words, four_words, one_word, parts_left, three_words, two_words}
use Rattle.admission_text.specs.Grammar.{IsApartEntry, IsEntry, IsExprText, IsRegionEntry, IsRegionName, IsRequireEntry, IsScratchEntry, IsStackEntry, Line, has_line, is_lower, is_name_byte, region_names, region_number, relation}
use Rattle.admission_text.specs.Entries.{count_of}
use Rattle.admission_text.specs.Reading.{apart_entry, compare_need, entry_of, entry_with, expr_of, header_entry, is_admit, is_modulus, is_region_name, keyword_of, live_entry, modulo_need, names_of, need_by, word_number, outputs_of, region_entry, relation_of, require_entry, right_of, scratch_entry, stack_entry}
use Rattle.text_parts.proofs.Options.{chosen_else, chosen_then}
use Rattle.admission_text.proofs.Numbers.{number-known, number-only}
use Rattle.admission_text.proofs.Registers.{outputs-known, outputs-only}
use Rattle.admission_text.proofs.Terms.{expr-known, expr-only}
use Rattle.text_parts.proofs.WordTexts as cuts
use Rattle.text_parts.proofs.Options.{bind_some}

-- there is a line
abbrev pub is_headed : List Line → Bool
is_headed [] = false
is_headed (l ∷ ls) = true

-- what the draft tells of the lines that made it
pub record Tells (before : List Line) (d : Draft) : Type 0 where
  pub headed : d.headed ≡ is_headed before
  pub names : names_of d ≡ region_names before
  pub stacked : d.stacked ≡ has_line (codes "stack") before
  pub lived : d.lived ≡ has_line (codes "live") before
  pub regions : length d.admission.regions ≡ count_of (codes "region") before
  pub needs : length d.admission.needs ≡ count_of (codes "require") before
  pub aparts : length d.admission.aparts ≡ count_of (codes "apart") before
  pub scratch : length d.admission.scratch ≡ count_of (codes "scratch") before

headed-some : (before : List Line) → is_headed before ≡ true → before ≢ []
headed-some [] h = absurd (cc)
headed-some (l ∷ ls) h = λ e. cc

headed-none : (before : List Line) → is_headed before ≡ false → before ≡ []
headed-none [] h = refl
headed-none (l ∷ ls) h = absurd (cc)

some-headed : (before : List Line) → before ≢ [] → is_headed before ≡ true
some-headed [] some = absurd (some refl)
some-headed (l ∷ ls) some = refl

eq-known : (xs ys : List ℕ) → bytes_eq xs ys ≡ true → xs ≡ ys
eq-known xs ys h = (bytes_eq-Decides xs ys).0 h

eq-only : (xs ys : List ℕ) → xs ≡ ys → bytes_eq xs ys ≡ true
eq-only xs ys h = (bytes_eq-Decides xs ys).1 h

-- of a choice that has a value, which way it went, and which value
chosen : {A : Type 0} (b : Bool) (x : A) (rest : Option A) (y : A) → cond b (Some x) rest ≡ Some y → ((b ≡ true) × (x ≡ y)) ⊎ (rest ≡ Some y)
chosen true x rest y h = inl (refl, same_Some x y h)
chosen false x rest y h = inr h

-- single words

relation-known : (word : List ℕ) (rel : Rel) → relation_of word ≡ Some rel → word ≡ relation rel
unfolding relation_of
relation-known word rel h =
    elim (chosen (bytes_eq word (codes "=")) Eq _ rel h) [
      | inl p ↦ eq-known word (codes "=") p.0 ∙ ap relation p.1
      | inr h1 ↦ elim (chosen (bytes_eq word (codes "!=")) Ne _ rel h1) [
        | inl p ↦ eq-known word (codes "!=") p.0 ∙ ap relation p.1
        | inr h2 ↦ elim (chosen (bytes_eq word (codes "<")) Lt _ rel h2) [
          | inl p ↦ eq-known word (codes "<") p.0 ∙ ap relation p.1
          | inr h3 ↦ elim (chosen (bytes_eq word (codes "<=")) Le _ rel h3) [
            | inl p ↦ eq-known word (codes "<=") p.0 ∙ ap relation p.1
            | inr h4 ↦ elim (chosen (bytes_eq word (codes "s<")) Slt _ rel h4) [
              | inl p ↦ eq-known word (codes "s<") p.0 ∙ ap relation p.1
              | inr h5 ↦ let p = chosen_then (bytes_eq word (codes "s<=")) (Some Sle) rel h5 in
                  eq-known word (codes "s<=") p.0 ∙ ap relation (same_Some Sle rel p.1)
            ]
          ]
        ]
      ]
    ]

relation-only : (rel : Rel) → relation_of (relation rel) ≡ Some rel
unfolding relation_of
relation-only Eq = refl
relation-only Ne = refl
relation-only Lt = refl
relation-only Le = refl
relation-only Slt = refl
relation-only Sle = refl

abbrev keyword_text : Keyword → List ℕ
keyword_text words.Admit = codes "admit"
keyword_text words.Region = codes "region"
keyword_text words.Require = codes "require"
keyword_text words.Apart = codes "apart"
keyword_text words.Scratch = codes "scratch"
keyword_text words.Stack = codes "stack"
keyword_text words.Live = codes "live"

keyword-known : (word : List ℕ) (k : Keyword) → keyword_of word ≡ Some k → word ≡ keyword_text k
unfolding keyword_of
keyword-known word k h =
    elim (chosen (bytes_eq word (codes "admit")) words.Admit _ k h) [
      | inl p ↦ eq-known word (codes "admit") p.0 ∙ ap keyword_text p.1
      | inr h1 ↦ elim (chosen (bytes_eq word (codes "region")) words.Region _ k h1) [
        | inl p ↦ eq-known word (codes "region") p.0 ∙ ap keyword_text p.1
        | inr h2 ↦ elim (chosen (bytes_eq word (codes "require")) words.Require _ k h2) [
          | inl p ↦ eq-known word (codes "require") p.0 ∙ ap keyword_text p.1
          | inr h3 ↦ elim (chosen (bytes_eq word (codes "apart")) words.Apart _ k h3) [
            | inl p ↦ eq-known word (codes "apart") p.0 ∙ ap keyword_text p.1
            | inr h4 ↦ elim (chosen (bytes_eq word (codes "scratch")) words.Scratch _ k h4) [
              | inl p ↦ eq-known word (codes "scratch") p.0 ∙ ap keyword_text p.1
              | inr h5 ↦ elim (chosen (bytes_eq word (codes "stack")) words.Stack _ k h5) [
                | inl p ↦ eq-known word (codes "stack") p.0 ∙ ap keyword_text p.1
                | inr h6 ↦ let p = chosen_then (bytes_eq word (codes "live")) (Some words.Live) k h6 in
                    eq-known word (codes "live") p.0 ∙ ap keyword_text (same_Some words.Live k p.1)
              ]
            ]
          ]
        ]
      ]
    ]

keyword-only : (k : Keyword) → keyword_of (keyword_text k) ≡ Some k
unfolding keyword_of
keyword-only words.Admit = refl
keyword-only words.Region = refl
keyword-only words.Require = refl
keyword-only words.Apart = refl
keyword-only words.Scratch = refl
keyword-only words.Stack = refl
keyword-only words.Live = refl

abbrev right_text : Bool → List ℕ
right_text write = cond write (codes "write") (codes "read")

right-known : (word : List ℕ) (write : Bool) → right_of word ≡ Some write → word ≡ right_text write
unfolding right_of
right-known word write h =
    elim (chosen (bytes_eq word (codes "write")) true _ write h) [
      | inl p ↦ eq-known word (codes "write") p.0 ∙ ap right_text p.1
      | inr h1 ↦ let p = chosen_then (bytes_eq word (codes "read")) (Some false) write h1 in
          eq-known word (codes "read") p.0 ∙ ap right_text (same_Some false write p.1)
    ]

right-only : (write : Bool) → right_of (right_text write) ≡ Some write
unfolding right_of
right-only true = refl
right-only false = refl

name-known : (name : List ℕ) → is_region_name name ≡ true → IsRegionName name
unfolding is_region_name
name-known [] h = absurd (cc)
name-known (b ∷ bs) h =
    let p = and_parts (is_lower b) (list_all is_name_byte bs && leb (length bs) 15) h in
    let q = and_parts (list_all is_name_byte bs) (leb (length bs) 15) p.1 in
    (p.0, q.0, leb-true (length bs) 15 q.1)

name-only : (name : List ℕ) → IsRegionName name → is_region_name name ≡ true
unfolding is_region_name
name-only [] h = absurd h
name-only (b ∷ bs) h =
    and_from (is_lower b) (list_all is_name_byte bs && leb (length bs) 15) h.0 (and_from (list_all is_name_byte bs) (leb (length bs) 15) h.1 (le-leb (length bs) 15 h.2))

power : (m k : ℕ) → 0 < k → k ≤ 12 → eqb m (2 ^ k) ≡ true → IsModulus m
power m k some few h = (k, some, few, eqb-true m (2 ^ k) h)

modulus-known : (m : ℕ) → is_modulus m ≡ true → IsModulus m
modulus-known m h =
    elim (or_cases (eqb m 2) _ h) [
      | inl e ↦ power m 1 (omega arith) (omega arith) e
      | inr h2 ↦
          elim (or_cases (eqb m 4) _ h2) [
            | inl e ↦ power m 2 (omega arith) (omega arith) e
            | inr h3 ↦
                elim (or_cases (eqb m 8) _ h3) [
                  | inl e ↦ power m 3 (omega arith) (omega arith) e
                  | inr h4 ↦
                      elim (or_cases (eqb m 16) _ h4) [
                        | inl e ↦ power m 4 (omega arith) (omega arith) e
                        | inr h5 ↦
                            elim (or_cases (eqb m 32) _ h5) [
                              | inl e ↦ power m 5 (omega arith) (omega arith) e
                              | inr h6 ↦
                                  elim (or_cases (eqb m 64) _ h6) [
                                    | inl e ↦ power m 6 (omega arith) (omega arith) e
                                    | inr h7 ↦
                                        elim (or_cases (eqb m 128) _ h7) [
                                          | inl e ↦ power m 7 (omega arith) (omega arith) e
                                          | inr h8 ↦
                                              elim (or_cases (eqb m 256) _ h8) [
                                                | inl e ↦ power m 8 (omega arith) (omega arith) e
                                                | inr h9 ↦
                                                    elim (or_cases (eqb m 512) _ h9) [
                                                      | inl e ↦ power m 9 (omega arith) (omega arith) e
                                                      | inr h10 ↦
                                                          elim (or_cases (eqb m 1024) _ h10) [
                                                            | inl e ↦ power m 10 (omega arith) (omega arith) e
                                                            | inr h11 ↦
                                                                elim (or_cases (eqb m 2048) _ h11) [
                                                                  | inl e ↦ power m 11 (omega arith) (omega arith) e
                                                                  | inr h12 ↦
                                                                      power m 12 (omega arith) (omega arith) h12
                                                                ]
                                                          ]
                                                    ]
                                              ]
                                        ]
                                  ]
                            ]
                      ]
                ]
          ]
    ]

modulus-power : (k : ℕ) → 0 < k → k ≤ 12 → is_modulus (2 ^ k) ≡ true
modulus-power k some few =
    elim (or_cases (eqb k 0) (is_modulus (2 ^ k)) (agree_below_at (λ j. eqb j 0 || is_modulus (2 ^ j)) (λ j. true) 13 k refl (omega arith)))
    [ inl zero ↦ absurd (eqb-false-at k some zero) | inr h ↦ h ]
  where
    eqb-false-at : (j : ℕ) → 0 < j → eqb j 0 ≡ true → ⊥
    eqb-false-at j above e = omega (arith, eqb-true j 0 e)

modulus-only : (m : ℕ) → IsModulus m → is_modulus m ≡ true
modulus-only m h = subst (λ (n : ℕ). is_modulus n ≡ true) (sym h.3) (modulus-power h.0 h.1 h.2)

-- lines of each kind, by what stands behind the first space

first-more : (text a x : List ℕ) (xs : List (List ℕ)) → parts 32 text ≡ a ∷ x ∷ xs → (rest : List ℕ) × (first_part 32 text ≡ (a, Some rest)) × (parts 32 rest ≡ x ∷ xs)
unfolding first_part
first-more text a x xs is = let p = cuts.cut-more text a x xs is in (p.0, ap (first_by text) p.1, p.2)

first-one : (text a : List ℕ) → parts 32 text ≡ a ∷ [] → first_part 32 text ≡ (a, None)
unfolding first_part
first-one text a is = let p = cuts.cut-one text a is in ap (first_by text) p.0 ∙ ap (λ (x : List ℕ). (x, None)) p.1

header-known : (d : Draft) (rest : List ℕ) (e : Entry) → header_entry d rest ≡ Some e → (d.headed ≡ false) × (rest ≡ codes "1") × (entries.Header ≡ e)
unfolding header_entry
header-known d rest e h =
    let p = chosen_else (d.headed || not (bytes_eq rest (codes "1"))) (Some entries.Header) e h in
    let q = or_parts d.headed (not (bytes_eq rest (codes "1"))) p.0 in
    (q.0, eq-known rest (codes "1") (not-false (bytes_eq rest (codes "1")) q.1), same_Some entries.Header e p.1)

region-known : (before : List Line) (d : Draft) (rest : List ℕ) (e : Entry) → Tells before d → region_entry d rest ≡ Some e
    → (r : RegionLine) × (entries.Region r ≡ e) × IsRegionEntry before (codes "region" ∷ parts 32 rest) r
unfolding region_entry
region-known before d rest e tells h =
    let w = bind_some (four_words rest) (λ found. right_of found.3 >>= λ write. ((cond (is_region_name found.0 && is_none (region_number found.0 (names_of d))) (expr_of found.1) None)
    >>= λ base. (expr_of found.2 >>= λ len. Some (entries.Region (record { name = found.0; base = base; len = len; write = write }))))) e h in
    let name = w.0.0 in
    let write = bind_some (right_of w.0.3) (λ write. (cond (is_region_name name && is_none (region_number name (names_of d))) (expr_of w.0.1) None)
    >>= λ base. (expr_of w.0.2 >>= λ len. Some (entries.Region (record { name = name; base = base; len = len; write = write })))) e w.2 in
    let base = bind_some (cond (is_region_name name && is_none (region_number name (names_of d))) (expr_of w.0.1) None)
    (λ base. expr_of w.0.2 >>= λ len. Some (entries.Region (record { name = name; base = base; len = len; write = write.0 }))) e write.2 in
    let len = bind_some (expr_of w.0.2) (λ len. Some (entries.Region (record { name = name; base = base.0; len = len; write = write.0 }))) e base.2 in
    let tests = chosen_then (is_region_name name && is_none (region_number name (names_of d))) (expr_of w.0.1) base.0 base.1 in
    let both = and_parts (is_region_name name) (is_none (region_number name (names_of d))) tests.0 in
    let words = cuts.four-known rest w.0 w.1 in
    let right = right-known w.0.3 write.0 write.1 in (
      record { name = name; base = base.0; len = len.0; write = write.0 },
      same_Some _ e len.2,
      record {
        base = w.0.1;
        len = w.0.2;
        spelled = ap (λ (ws : List (List ℕ)). codes "region" ∷ ws) (words ∙ ap (λ (x : List ℕ). name ∷ w.0.1 ∷ w.0.2 ∷ x ∷ []) right);
        name_is = name-known name both.0;
        fresh = ap (region_number name) (sym tells.names) ∙ none-is (region_number name (names_of d)) both.1;
        base_is = expr-known w.0.1 base.0 tests.1;
        len_is = expr-known w.0.2 len.0 len.1;
      },
    )
  where
    none-is : (o : Option ℕ) → is_none o ≡ true → o ≡ None
    none-is None h = refl
    none-is (Some n) h = absurd (cc)

compare-known : (left word right : List ℕ) (n : Need) → compare_need left word right ≡ Some n → IsRequireEntry (codes "require" ∷ left ∷ word ∷ right ∷ []) n
unfolding compare_need
compare-known left word right n h =
    let rel = bind_some (relation_of word) (λ rel. expr_of left >>= λ a. (expr_of right >>= λ b. Some (Compare a rel b))) n h in
    let a = bind_some (expr_of left) (λ a. expr_of right >>= λ b. Some (Compare a rel.0 b)) n rel.2 in
    let b = bind_some (expr_of right) (λ b. Some (Compare a.0 rel.0 b)) n a.2 in
    let means : Compare a.0 rel.0 b.0 ≡ n = same_Some (Compare a.0 rel.0 b.0) n b.2 in
    let word_is = relation-known word rel.0 rel.1 in
    subst (IsRequireEntry (codes "require" ∷ left ∷ word ∷ right ∷ [])) means
    (left, right, ap (λ (x : List ℕ). codes "require" ∷ left ∷ x ∷ right ∷ []) word_is, expr-known left a.0 a.1, expr-known right b.0 b.1)

modulo-known : (left word modulus equals rest : List ℕ) (n : Need) → modulo_need left word modulus equals rest ≡ Some n
    → IsRequireEntry (codes "require" ∷ left ∷ word ∷ modulus ∷ equals ∷ rest ∷ []) n
unfolding modulo_need
modulo-known left word modulus equals rest n h =
    let both : Bool = bytes_eq word (codes "mod") && bytes_eq equals (codes "=") in
    let m = bind_some (cond both (word_number modulus) None)
    (λ m. word_number rest >>= λ r. ((cond (is_modulus m && ltb r m) (expr_of left) None) >>= λ a. Some (Modulo a m r))) n h in
    let r = bind_some (word_number rest) (λ r. (cond (is_modulus m.0 && ltb r m.0) (expr_of left) None) >>= λ a. Some (Modulo a m.0 r)) n m.2 in
    let a = bind_some (cond (is_modulus m.0 && ltb r.0 m.0) (expr_of left) None) (λ a. Some (Modulo a m.0 r.0)) n r.2 in
    let means : Modulo a.0 m.0 r.0 ≡ n = same_Some (Modulo a.0 m.0 r.0) n a.2 in
    let spelled = chosen_then both (word_number modulus) m.0 m.1 in
    let parts_are = and_parts (bytes_eq word (codes "mod")) (bytes_eq equals (codes "=")) spelled.0 in
    let within = chosen_then (is_modulus m.0 && ltb r.0 m.0) (expr_of left) a.0 a.1 in
    let bounds = and_parts (is_modulus m.0) (ltb r.0 m.0) within.0 in
    subst (IsRequireEntry (codes "require" ∷ left ∷ word ∷ modulus ∷ equals ∷ rest ∷ [])) means (
      left,
      modulus,
      rest,
      ap (λ (x : List ℕ). codes "require" ∷ left ∷ x ∷ modulus ∷ equals ∷ rest ∷ []) (eq-known word (codes "mod") parts_are.0)
          ∙ ap (λ (x : List ℕ). codes "require" ∷ left ∷ codes "mod" ∷ modulus ∷ x ∷ rest ∷ []) (eq-known equals (codes "=") parts_are.1),
      expr-known left a.0 within.1,
      number-known modulus m.0 spelled.1,
      number-known rest r.0 r.1,
      modulus-known m.0 bounds.0,
      ltb-true r.0 m.0 bounds.1,
    )

need-by-known : (rest : List ℕ) (n : Need) (r : Option (List ℕ × List ℕ × List ℕ × List ℕ × List ℕ)) → five_words rest ≡ r → need_by r rest ≡ Some n
    → IsRequireEntry (codes "require" ∷ parts 32 rest) n
need-by-known rest n None is h =
    let w = bind_some (three_words rest) (λ found. compare_need found.0 found.1 found.2) n h in
    let words = cuts.three-known rest w.0 w.1 in
    subst (λ (ws : List (List ℕ)). IsRequireEntry (codes "require" ∷ ws) n) (sym words) (compare-known w.0.0 w.0.1 w.0.2 n w.2)
need-by-known rest n (Some found) is h =
    let words = cuts.five-known rest found is in
    subst (λ (ws : List (List ℕ)). IsRequireEntry (codes "require" ∷ ws) n) (sym words) (modulo-known found.0 found.1 found.2 found.3 found.4 n h)

require-known : (rest : List ℕ) (e : Entry) → require_entry rest ≡ Some e → (n : Need) × (entries.Require n ≡ e) × IsRequireEntry (codes "require" ∷ parts 32 rest) n
unfolding require_entry
require-known rest e h =
    let n = bind_some (need_by (five_words rest) rest) (λ n. Some (entries.Require n)) e h in
    (n.0, same_Some (entries.Require n.0) e n.2, need-by-known rest n.0 (five_words rest) refl n.1)

apart-known : (before : List Line) (d : Draft) (rest : List ℕ) (e : Entry) → Tells before d → apart_entry d rest ≡ Some e
    → (i j : ℕ) × (entries.Apart i j ≡ e) × IsApartEntry before (codes "apart" ∷ parts 32 rest) i j
unfolding apart_entry
apart-known before d rest e tells h =
    let w = bind_some (two_words rest) (λ found. region_number found.0 (names_of d) >>= λ i. (region_number found.1 (names_of d) >>= λ j. cond (eqb i j) None (Some (entries.Apart i j)))) e h in
    let i = bind_some (region_number w.0.0 (names_of d)) (λ i. region_number w.0.1 (names_of d) >>= λ j. cond (eqb i j) None (Some (entries.Apart i j))) e w.2 in
    let j = bind_some (region_number w.0.1 (names_of d)) (λ j. cond (eqb i.0 j) None (Some (entries.Apart i.0 j))) e i.2 in
    let other = chosen_else (eqb i.0 j.0) (Some (entries.Apart i.0 j.0)) e j.2 in (
      i.0,
      j.0,
      same_Some (entries.Apart i.0 j.0) e other.1,
      (
        w.0.0,
        w.0.1,
        ap (λ (ws : List (List ℕ)). codes "apart" ∷ ws) (cuts.two-known rest w.0 w.1),
        ap (region_number w.0.0) (sym tells.names) ∙ i.1,
        ap (region_number w.0.1) (sym tells.names) ∙ j.1,
        eqb-false i.0 j.0 other.0,
      ),
    )

scratch-known : (rest : List ℕ) (e : Entry) → scratch_entry rest ≡ Some e → (base len : Expr) × (entries.Scratch base len ≡ e) × IsScratchEntry (codes "scratch" ∷ parts 32 rest) base len
unfolding scratch_entry
scratch-known rest e h =
    let w = bind_some (two_words rest) (λ found. expr_of found.0 >>= λ base. (expr_of found.1 >>= λ len. Some (entries.Scratch base len))) e h in
    let base = bind_some (expr_of w.0.0) (λ base. expr_of w.0.1 >>= λ len. Some (entries.Scratch base len)) e w.2 in
    let len = bind_some (expr_of w.0.1) (λ len. Some (entries.Scratch base.0 len)) e base.2 in (
      base.0,
      len.0,
      same_Some (entries.Scratch base.0 len.0) e len.2,
      (w.0.0, w.0.1, ap (λ (ws : List (List ℕ)). codes "scratch" ∷ ws) (cuts.two-known rest w.0 w.1), expr-known w.0.0 base.0 base.1, expr-known w.0.1 len.0 len.1),
    )

stack-known : (d : Draft) (rest : List ℕ) (e : Entry) → stack_entry d rest ≡ Some e → (n : ℕ) × (entries.Stack n ≡ e) × IsStackEntry (codes "stack" ∷ parts 32 rest) n × (d.stacked ≡ false)
unfolding stack_entry
stack-known d rest e h =
    let w = bind_some (cond d.stacked None (one_word rest)) (λ word. word_number word >>= λ n. cond (eqb (n % 8) 0 && leb n 4096) (Some (entries.Stack n)) None) e h in
    let n = bind_some (word_number w.0) (λ n. cond (eqb (n % 8) 0 && leb n 4096) (Some (entries.Stack n)) None) e w.2 in
    let first = chosen_else d.stacked (one_word rest) w.0 w.1 in
    let within = chosen_then (eqb (n.0 % 8) 0 && leb n.0 4096) (Some (entries.Stack n.0)) e n.2 in
    let both = and_parts (eqb (n.0 % 8) 0) (leb n.0 4096) within.0 in (
      n.0,
      same_Some (entries.Stack n.0) e within.1,
      (w.0, ap (λ (ws : List (List ℕ)). codes "stack" ∷ ws) (cuts.one-known rest w.0 first.1), number-known w.0 n.0 n.1, eqb-true (n.0 % 8) 0 both.0, leb-true n.0 4096 both.1),
      first.0,
    )

live-known : (d : Draft) (rest : Option (List ℕ)) (e : Entry) → live_entry d rest ≡ Some e
    → (live : List Output) × (entries.Live live ≡ e) × AllZip IsOutputText (parts_left 32 rest) live × (d.lived ≡ false)
unfolding live_entry
live-known d rest e h =
    let first = chosen_else d.lived (outputs_of (parts_left 32 rest) >>= λ live. Some (entries.Live live)) e h in
    let live = bind_some (outputs_of (parts_left 32 rest)) (λ live. Some (entries.Live live)) e first.1 in
    (live.0, same_Some (entries.Live live.0) e live.2, outputs-known (parts_left 32 rest) live.0 live.1, first.0)

behind-first : (before : List Line) (d : Draft) → Tells before d → (d.headed || false) ≡ true → before ≢ []
behind-first before d tells h =
    elim (or_cases d.headed false h) [ inl e ↦ headed-some before (sym tells.headed ∙ e) | inr e ↦ absurd (both_ways false refl e) ]

with-known : (before : List Line) (d : Draft) (k : Keyword) (rest : Option (List ℕ)) (e : Entry) → Tells before d → (d.headed || is_admit k) ≡ true
    → entry_with d k rest ≡ Some e → IsEntry before (keyword_text k ∷ parts_left 32 rest) e
with-known before d words.Admit None e tells headed h = absurd (cc)
with-known before d words.Admit (Some rest) e tells headed h =
    let p = header-known d rest e h in
    subst (λ (x : Entry). IsEntry before (codes "admit" ∷ parts 32 rest) x) p.2
    (headed-none before (sym tells.headed ∙ p.0), ap (λ (t : List ℕ). codes "admit" ∷ parts 32 t) p.1)
with-known before d words.Region None e tells headed h = absurd (cc)
with-known before d words.Region (Some rest) e tells headed h =
    let p = region-known before d rest e tells h in
    subst (λ (x : Entry). IsEntry before (codes "region" ∷ parts 32 rest) x) p.1 (behind-first before d tells headed, p.2)
with-known before d words.Require None e tells headed h = absurd (cc)
with-known before d words.Require (Some rest) e tells headed h =
    let p = require-known rest e h in
    subst (λ (x : Entry). IsEntry before (codes "require" ∷ parts 32 rest) x) p.1 (behind-first before d tells headed, p.2)
with-known before d words.Apart None e tells headed h = absurd (cc)
with-known before d words.Apart (Some rest) e tells headed h =
    let p = apart-known before d rest e tells h in
    subst (λ (x : Entry). IsEntry before (codes "apart" ∷ parts 32 rest) x) p.2 (behind-first before d tells headed, p.3)
with-known before d words.Scratch None e tells headed h = absurd (cc)
with-known before d words.Scratch (Some rest) e tells headed h =
    let p = scratch-known rest e h in
    subst (λ (x : Entry). IsEntry before (codes "scratch" ∷ parts 32 rest) x) p.2 (behind-first before d tells headed, p.3)
with-known before d words.Stack None e tells headed h = absurd (cc)
with-known before d words.Stack (Some rest) e tells headed h =
    let p = stack-known d rest e h in
    subst (λ (x : Entry). IsEntry before (codes "stack" ∷ parts 32 rest) x) p.1 (behind-first before d tells headed, p.2, sym tells.stacked ∙ p.3)
with-known before d words.Live rest e tells headed h =
    let p = live-known d rest e h in
    subst (λ (x : Entry). IsEntry before (codes "live" ∷ parts_left 32 rest) x) p.1
    (behind-first before d tells headed, (parts_left 32 rest, refl, p.2), sym tells.lived ∙ p.3)

-- what is read of a line is what it spells
pub entry-known : (before : List Line) (d : Draft) (text : List ℕ) (e : Entry) → Tells before d → entry_of d text ≡ Some e → IsEntry before (parts 32 text) e
unfolding entry_of
entry-known before d text e tells h =
    let first = first_part 32 text in
    let k = bind_some (keyword_of first.0) (λ keyword. cond (d.headed || is_admit keyword) (entry_with d keyword first.1) None) e h in
    let headed = chosen_then (d.headed || is_admit k.0) (entry_with d k.0 first.1) e k.2 in
    let spelled : parts 32 text ≡ keyword_text k.0 ∷ parts_left 32 first.1 =
    cuts.parts-first 32 text ∙ ap (λ (w : List ℕ). w ∷ parts_left 32 first.1) (keyword-known first.0 k.0 k.1) in
    subst (λ (ws : List (List ℕ)). IsEntry before ws e) (sym spelled) (with-known before d k.0 first.1 e tells headed.0 headed.1)

-- and what it spells is read

read-by : (d : Draft) (text : List ℕ) (k : Keyword) (rest : Option (List ℕ)) (e : Entry) → first_part 32 text ≡ (keyword_text k, rest) → (d.headed || is_admit k) ≡ true
    → entry_with d k rest ≡ Some e → entry_of d text ≡ Some e
unfolding entry_of
read-by d text k rest e first headed h =
    ap (λ (f : List ℕ × Option (List ℕ)). keyword_of f.0 >>= λ keyword. cond (d.headed || is_admit keyword) (entry_with d keyword f.1) None) first
    ∙ ap (λ (o : Option Keyword). o >>= λ keyword. cond (d.headed || is_admit keyword) (entry_with d keyword rest) None) (keyword-only k)
    ∙ ap (λ (t : Bool). cond t (entry_with d k rest) None) headed ∙ h

is-headed : (before : List Line) (d : Draft) → Tells before d → before ≢ [] → d.headed ≡ true
is-headed before d tells some = tells.headed ∙ some-headed before some

behind-head : (before : List Line) (d : Draft) (k : Keyword) → Tells before d → before ≢ [] → (d.headed || is_admit k) ≡ true
behind-head before d k tells some = or_left d.headed (is_admit k) (is-headed before d tells some)

header-only : (d : Draft) → d.headed ≡ false → header_entry d (codes "1") ≡ Some entries.Header
unfolding header_entry
header-only d headed = rw headed refl

region-only : (before : List Line) (d : Draft) (rest : List ℕ) (r : RegionLine) (base len : List ℕ) → Tells before d → parts 32 rest ≡ r.name ∷ base ∷ len ∷ right_text r.write ∷ []
    → IsRegionName r.name → region_number r.name (region_names before) ≡ None → IsExprText base r.base → IsExprText len r.len → region_entry d rest ≡ Some (entries.Region r)
unfolding region_entry
region-only before d rest r base len tells is name fresh base_is len_is =
    let w = cuts.four-only rest r.name base len (right_text r.write) is in
    let right = right-only r.write in
    let named = name-only r.name name in
    let new : region_number r.name (names_of d) ≡ None = ap (region_number r.name) tells.names ∙ fresh in
    let b = expr-only base r.base base_is in
    let l = expr-only len r.len len_is in
    rw (w, right, named, new, b, l) refl

require-by : (rest : List ℕ) (n : Need) → need_by (five_words rest) rest ≡ Some n → require_entry rest ≡ Some (entries.Require n)
unfolding require_entry
require-by rest n h = rw h refl

compare-only : (rest left right : List ℕ) (a b : Expr) (rel : Rel) → parts 32 rest ≡ left ∷ relation rel ∷ right ∷ [] → IsExprText left a → IsExprText right b
    → need_by (five_words rest) rest ≡ Some (Compare a rel b)
unfolding compare_need
compare-only rest left right a b rel is left_is right_is =
    let five = cuts.five-none rest left (relation rel) right is in
    let three = cuts.three-only rest left (relation rel) right is in
    let word = relation-only rel in
    let x = expr-only left a left_is in
    let y = expr-only right b right_is in
    rw (five, three, word, x, y) refl

modulo-only : (rest left modulus last : List ℕ) (a : Expr) (m r : ℕ) → parts 32 rest ≡ left ∷ codes "mod" ∷ modulus ∷ codes "=" ∷ last ∷ [] → IsExprText left a
    → IsNumberText modulus m → IsNumberText last r → IsModulus m → r < m → need_by (five_words rest) rest ≡ Some (Modulo a m r)
unfolding modulo_need
modulo-only rest left modulus last a m r is left_is modulus_is last_is power below =
    let five = cuts.five-only rest left (codes "mod") modulus (codes "=") last is in
    let x = number-only modulus m modulus_is in
    let y = number-only last r last_is in
    let z = modulus-only m power in
    let low = lt-ltb r m below in
    let e = expr-only left a left_is in
    rw (five, x, y, z, low, e) refl

apart-only : (before : List Line) (d : Draft) (rest a b : List ℕ) (i j : ℕ) → Tells before d → parts 32 rest ≡ a ∷ b ∷ [] → region_number a (region_names before) ≡ Some i
    → region_number b (region_names before) ≡ Some j → i ≢ j → apart_entry d rest ≡ Some (entries.Apart i j)
unfolding apart_entry
apart-only before d rest a b i j tells is first second other =
    let w = cuts.two-only rest a b is in
    let x : region_number a (names_of d) ≡ Some i = ap (region_number a) tells.names ∙ first in
    let y : region_number b (names_of d) ≡ Some j = ap (region_number b) tells.names ∙ second in
    let z = ne_eqb i j other in
    rw (w, x, y, z) refl

scratch-only : (rest x y : List ℕ) (base len : Expr) → parts 32 rest ≡ x ∷ y ∷ [] → IsExprText x base → IsExprText y len → scratch_entry rest ≡ Some (entries.Scratch base len)
unfolding scratch_entry
scratch-only rest x y base len is base_is len_is =
    let w = cuts.two-only rest x y is in
    let b = expr-only x base base_is in
    let l = expr-only y len len_is in
    rw (w, b, l) refl

stack-only : (d : Draft) (rest x : List ℕ) (n : ℕ) → d.stacked ≡ false → parts 32 rest ≡ x ∷ [] → IsNumberText x n → n % 8 ≡ 0 → n ≤ 4096 → stack_entry d rest ≡ Some (entries.Stack n)
unfolding stack_entry
stack-only d rest x n fresh is number words small =
    let w = cuts.one-only rest x is in
    let m = number-only x n number in
    let a = eq-eqb (n % 8) 0 words in
    let b = le-leb n 4096 small in
    rw (fresh, w, m, a, b) refl

live-only : (d : Draft) (rest : Option (List ℕ)) (live : List Output) → d.lived ≡ false → AllZip IsOutputText (parts_left 32 rest) live → live_entry d rest ≡ Some (entries.Live live)
unfolding live_entry
live-only d rest live fresh is = let outs = outputs-only (parts_left 32 rest) live is in rw (fresh, outs) refl

live-text : (before : List Line) (d : Draft) (text : List ℕ) (outs : List (List ℕ)) (live : List Output) → Tells before d → before ≢ [] → parts 32 text ≡ codes "live" ∷ outs
    → AllZip IsOutputText outs live → d.lived ≡ false → entry_of d text ≡ Some (entries.Live live)
live-text before d text [] live tells some is are fresh =
    read-by d text words.Live None (entries.Live live) (first-one text (codes "live") is) (behind-head before d words.Live tells some) (live-only d None live fresh are)
live-text before d text (out ∷ outs) live tells some is are fresh =
    let p = first-more text (codes "live") out outs is in
    read-by d text words.Live (Some p.0) (entries.Live live) p.1 (behind-head before d words.Live tells some)
    (live-only d (Some p.0) live fresh (subst (λ (ws : List (List ℕ)). AllZip IsOutputText ws live) (sym p.2) are))

require-text : (before : List Line) (d : Draft) (text : List ℕ) (n : Need) → Tells before d → before ≢ [] → IsRequireEntry (parts 32 text) n → entry_of d text ≡ Some (entries.Require n)
require-text before d text (Compare a rel b) tells some is =
    let p = first-more text (codes "require") is.0 (relation rel ∷ is.1 ∷ []) is.2 in
    read-by d text words.Require (Some p.0) (entries.Require (Compare a rel b)) p.1 (behind-head before d words.Require tells some)
    (require-by p.0 (Compare a rel b) (compare-only p.0 is.0 is.1 a b rel p.2 is.3 is.4))
require-text before d text (Modulo a m r) tells some is =
    let p = first-more text (codes "require") is.0 (codes "mod" ∷ is.1 ∷ codes "=" ∷ is.2 ∷ []) is.3 in
    read-by d text words.Require (Some p.0) (entries.Require (Modulo a m r)) p.1 (behind-head before d words.Require tells some)
    (require-by p.0 (Modulo a m r) (modulo-only p.0 is.0 is.1 is.2 a m r p.2 is.4 is.5 is.6 is.7 is.8))

-- what a line spells is read
pub entry-only : (before : List Line) (d : Draft) (text : List ℕ) (e : Entry) → Tells before d → IsEntry before (parts 32 text) e → entry_of d text ≡ Some e
entry-only before d text entries.Header tells is =
    let p = first-more text (codes "admit") (codes "1") [] is.1 in
    let rest_is : p.0 ≡ codes "1" = (cuts.cut-one p.0 (codes "1") p.2).1 in
    let none : d.headed ≡ false = tells.headed ∙ ap is_headed is.0 in
    read-by d text words.Admit (Some p.0) entries.Header p.1 (or_right d.headed true refl) (ap (header_entry d) rest_is ∙ header-only d none)
entry-only before d text (entries.Region r) tells is =
    let p = first-more text (codes "region") r.name (is.1.base ∷ is.1.len ∷ right_text r.write ∷ []) is.1.spelled in
    read-by d text words.Region (Some p.0) (entries.Region r) p.1 (behind-head before d words.Region tells is.0)
    (region-only before d p.0 r is.1.base is.1.len tells p.2 is.1.name_is is.1.fresh is.1.base_is is.1.len_is)
entry-only before d text (entries.Require n) tells is = require-text before d text n tells is.0 is.1
entry-only before d text (entries.Apart i j) tells is =
    let p = first-more text (codes "apart") is.1.0 (is.1.1 ∷ []) is.1.2 in
    read-by d text words.Apart (Some p.0) (entries.Apart i j) p.1 (behind-head before d words.Apart tells is.0)
    (apart-only before d p.0 is.1.0 is.1.1 i j tells p.2 is.1.3 is.1.4 is.1.5)
entry-only before d text (entries.Scratch base len) tells is =
    let p = first-more text (codes "scratch") is.1.0 (is.1.1 ∷ []) is.1.2 in
    read-by d text words.Scratch (Some p.0) (entries.Scratch base len) p.1 (behind-head before d words.Scratch tells is.0)
    (scratch-only p.0 is.1.0 is.1.1 base len p.2 is.1.3 is.1.4)
entry-only before d text (entries.Stack n) tells is =
    let p = first-more text (codes "stack") is.1.0 [] is.1.1 in
    read-by d text words.Stack (Some p.0) (entries.Stack n) p.1 (behind-head before d words.Stack tells is.0)
    (stack-only d p.0 is.1.0 n (tells.stacked ∙ is.2) p.2 is.1.2 is.1.3 is.1.4)
entry-only before d text (entries.Live live) tells is =
    live-text before d text is.1.0 live tells is.0 is.1.1 is.1.2 (tells.lived ∙ is.2)
