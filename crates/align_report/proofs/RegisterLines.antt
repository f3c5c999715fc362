-- The lines of registers, one after another.
use Rattle.std.proofs.Common.{◌≡◌, ℕ, ◌+◌, ◌<◌, ◌≤◌, List, [], ◌∷◌, ◌++◌, length, drop, get_or, Some, sym, ◌∙◌, ap, slice_get, unwrap_or, add-one, append_assoc}
use Rattle.std.proofs.Math.Seq.{drop-cons}
use Rattle.std.proofs.lemmas.List.{drop_all, append-nil}
use Rattle.register_names.specs.Names.{register_names}
use Rattle.align_report.specs.PlainReport.{register_line, register_lines}

lines-first : (n v : ℕ) (vs name : List ℕ) → slice_get (register_names 64) n ≡ Some name → register_lines n (v ∷ vs) ≡ register_line name v ++ register_lines (n + 1) vs
unfolding register_lines
lines-first n v vs name named = ap (λ o. register_line (unwrap_or o []) v ++ register_lines (n + 1) vs) named

-- the line of register n, and those behind it
pub lines-more : (regs out more all name : List ℕ) (n : ℕ) → n < length regs → slice_get (register_names 64) n ≡ Some name
    → more ≡ out ++ register_line name (get_or regs n 0) → out ++ register_lines n (drop n regs) ≡ all → more ++ register_lines (n + 1) (drop (n + 1) regs) ≡ all
lines-more regs out more all name n low named pushed so_far =
    ap (λ t. t ++ register_lines (n + 1) (drop (n + 1) regs)) pushed
    ∙ append_assoc out (register_line name (get_or regs n 0)) (register_lines (n + 1) (drop (n + 1) regs))
    ∙ ap (λ t. out ++ t) (sym (ap (register_lines n) (rw (add-one) (drop-cons regs n 0 low)) ∙ lines-first n (get_or regs n 0) (drop (n + 1) regs) name named))
    ∙ so_far

pub lines-all : (regs out all : List ℕ) (n : ℕ) → length regs ≤ n → out ++ register_lines n (drop n regs) ≡ all → out ≡ all
unfolding register_lines
lines-all regs out all n past so_far = sym (append-nil out) ∙ ap (λ t. out ++ register_lines n t) (sym (drop_all n regs past)) ∙ so_far

-- five pieces, pushed one after another
pub five_pieces : (old a b c d e v w x y z : List ℕ) → v ≡ old ++ a → w ≡ v ++ b → x ≡ w ++ c → y ≡ x ++ d → z ≡ y ++ e
    → z ≡ old ++ ((((a ++ b) ++ c) ++ d) ++ e)
five_pieces old a b c d e v w x y z p q r s t =
    t ∙ ap (λ l. l ++ e) (s ∙ ap (λ l. l ++ d) (r ∙ ap (λ l. l ++ c) (q ∙ ap (λ l. l ++ b) p))) ∙ simp append_assoc
