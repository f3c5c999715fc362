-- The first place of a byte in a text, and the text that is cut there.
use Rattle.std.proofs.Common.{◌≡◌, ◌⊎◌, inl, inr, ℕ, zero, suc, ◌+◌, ◌-◌, ◌<◌, ◌≤◌, Bool, false, cond, eqb, get_or, List, [], ◌∷◌, length, take, drop, Some, None, refl, sym, ap, subst, ◌∙◌, add-one, arith}
use Rattle.std.proofs.lemmas.Bool.{false_from_ne_true}
use Rattle.std.proofs.lemmas.List.{get_or-drop, length-drop, take_rest}
use Rattle.memchr.specs.Find.{NoneBefore, Nowhere, Passes, is_byte}
use Rattle.text_parts.specs.Cuts.{cut_at, onto_front}

-- a byte behind the first ones of a text, by its place in the text
module _ (test : ℕ → Bool) (text : List ℕ) (near : ℕ) where
  behind : (k : ℕ) → near ≤ k → Passes test text k → Passes test (drop near text) (k - near)
  behind k low here =
      ap test (get_or-drop near text (k - near) 0 ∙ ap (λ (n : ℕ). get_or text n 0) (there near k low)) ∙ here
    where
      there : (near k : ℕ) → near ≤ k → near + (k - near) ≡ k
      there near k low = omega (arith, low)

  -- none among the first ones, and none behind them up to a place
  pub nowhere_joined : (k : ℕ) → Nowhere (Passes test text) 0 near → Nowhere (Passes test (drop near text)) 0 k
      → Nowhere (Passes test text) 0 (near + k)
  nowhere_joined k before after j low high here =
      elim (first_or_behind near j) [
        | inl first ↦ before j low first here
        | inr rest ↦ after (j - near) (omega arith) (omega (arith, rest, high)) (behind j rest here)
      ]
    where
      first_or_behind : (near j : ℕ) → (j < near) ⊎ (near ≤ j)
      first_or_behind near j = grind arith

  -- the first one behind them is the first of all
  pub first_joined : (k : ℕ) → near + k < length text → Nowhere (Passes test text) 0 near
      → Nowhere (Passes test (drop near text)) 0 k → Passes test (drop near text) k
      → NoneBefore (Passes test text) 0 (length text) (near + k) × Passes test text (near + k)
  first_joined k within before after here = (
    record { low = omega arith; high = within; before = nowhere_joined k before after },
    ap test (sym (get_or-drop near text k 0)) ∙ here,
  )

  -- the place that a search of the rest finds, counted from the text's begin
  pub found_in_rest : (rest : List ℕ) → rest ≡ drop near text → Nowhere (Passes test text) 0 near → (k : ℕ)
      → NoneBefore (Passes test rest) 0 (length rest) k × Passes test rest k
      → NoneBefore (Passes test text) 0 (length text) (near + k) × Passes test text (near + k)
  found_in_rest rest is before k found =
      let there = subst (λ (r : List ℕ). NoneBefore (Passes test r) 0 (length r) k × Passes test r k) is found in
      first_joined k (within (length text) (length (drop near text)) near k (length-drop near text) there.0.high) before there.0.before there.1
    where
      within : (whole rest near k : ℕ) → rest ≡ whole - near → k < rest → near + k < whole
      within whole rest near k is h = omega (arith, is, h)

  -- where a search of the rest finds none, there is none
  pub none_in_rest : (rest : List ℕ) → rest ≡ drop near text → near ≤ length text → Nowhere (Passes test text) 0 near
      → Nowhere (Passes test rest) 0 (length rest) → Nowhere (Passes test text) 0 (length text)
  none_in_rest rest is low before none =
      let after = subst (λ (r : List ℕ). Nowhere (Passes test r) 0 (length r)) is none in
      subst (λ (n : ℕ). Nowhere (Passes test text) 0 n) (whole (length text) near low)
      (nowhere_joined (length text - near) before (subst (λ (n : ℕ). Nowhere (Passes test (drop near text)) 0 n) (length-drop near text) after))
    where
      whole : (n near : ℕ) → near ≤ n → near + (n - near) ≡ n
      whole n near low = omega (arith, low)

-- a text without that byte is not cut
pub cut_at-none : (byte : ℕ) (text : List ℕ) → Nowhere (Passes (is_byte byte) text) 0 (length text) → cut_at byte text ≡ None
unfolding cut_at
cut_at-none byte [] none = refl
cut_at-none byte (b ∷ bs) none =
    let other : eqb b byte ≡ false = false_from_ne_true (eqb b byte) (λ e. none 0 (omega arith) (omega arith) e) in
    ap (λ t. cond t (Some ([], bs)) (onto_front b (cut_at byte bs))) other
    ∙ ap (onto_front b) (cut_at-none byte bs (λ k low high is. none (suc k) (omega arith) (omega arith) is))

cut_behind : (byte : ℕ) (text : List ℕ) (k : ℕ) → k < length text → Nowhere (Passes (is_byte byte) text) 0 k → Passes (is_byte byte) text k
    → cut_at byte text ≡ Some (take k text, drop (suc k) text)
unfolding cut_at
cut_behind byte [] k within before here = absurd (omega arith)
cut_behind byte (b ∷ bs) zero within before here = ap (λ t. cond t (Some ([], bs)) (onto_front b (cut_at byte bs))) here
cut_behind byte (b ∷ bs) (suc k) within before here =
    let other : eqb b byte ≡ false = false_from_ne_true (eqb b byte) (λ e. before 0 (omega arith) (omega arith) e) in
    ap (λ t. cond t (Some ([], bs)) (onto_front b (cut_at byte bs))) other
    ∙ ap (onto_front b) (cut_behind byte bs k (omega arith) (λ j low high is. before (suc j) (omega arith) (omega arith) is) here)

-- a text is cut at the first place of that byte
pub cut_at-first : (byte : ℕ) (text : List ℕ) (k : ℕ) → k < length text → Nowhere (Passes (is_byte byte) text) 0 k → Passes (is_byte byte) text k
    → cut_at byte text ≡ Some (take k text, take (length text - (k + 1)) (drop (k + 1) text))
cut_at-first byte text k within before here =
    cut_behind byte text k within before here ∙ ap (λ n. Some (take k text, drop n text)) (sym (add-one k))
    ∙ ap (λ (rest : List ℕ). Some (take k text, rest)) (sym (take_rest text (k + 1)))
