-- Splits, read part by part.
use Rattle.std.proofs.Common.{◌≡◌, ℕ, suc, zero, ◌-◌, ◌<◌, List, [], ◌∷◌, length, get_or, take, drop, Ok, Err, sym, ap, ◌∙◌, arith}
use Rattle.std.specs.Prelude.{codes}
use Rattle.std.proofs.lemmas.List.{take_rest}
use Rattle.outcomes.specs.Firsts.{◌>>=◌}
use Rattle.refutations.specs.declared.tree.Tree.{Tree}
use Rattle.refutations.specs.declared.tree.Tree.TheOpen.{Split}
use Rattle.refutations.specs.declared.tree.Tree.TheViews.{roll-Tree}
use Rattle.refutations.specs.declared.tree.Tree.TheVariants.{rolls-Split}
use Rattle.refutations.specs.declared.tree.Tree.TheVariants as variants
use Rattle.text_codes.specs.Readers.{Reading, word_at, times_at}
use Rattle.certificate_file.specs.TreeReading.{Front, front_at, split_at, tree_at}

-- a tree with its parts
abbrev made : Front × List Tree → Tree
made p = roll-Tree (Split p.0.0 p.0.1.0 p.0.1.1.0 (record { steps = p.0.1.1.1 }) p.1)

abbrev children : (List ℕ → Reading Tree) → Front × List ℕ → Reading (Front × List Tree)
children r x = times_at r (length x.0.1.1.0) x.1 >>= λ (y : List Tree × List ℕ). let z : (Front × List Tree) × List ℕ = ((x.0, y.0), y.1) in Ok z

abbrev finish : Reading (Front × List Tree) → Reading Tree
finish q = q >>= λ (x : (Front × List Tree) × List ℕ). let z : Tree × List ℕ = (made x.0, x.1) in Ok z

split_word : (r : List ℕ → Reading Tree) (text r1 : List ℕ) → word_at (codes "plit ") text ≡ Ok (tt, r1)
    → split_at r text ≡ finish (front_at r1 >>= children r)
split_word r text r1 e = ap (λ (q : Reading (Unit {0})). finish (q >>= λ (x : Unit {0} × List ℕ). (front_at x.1 >>= children r))) e

split_front : (r : List ℕ → Reading Tree) (text r1 r2 : List ℕ) (front : Front) → word_at (codes "plit ") text ≡ Ok (tt, r1) → front_at r1 ≡ Ok (front, r2)
    → split_at r text ≡ finish (children r (front, r2))
split_front r text r1 r2 front e f = split_word r text r1 e ∙ ap (λ (q : Reading Front). finish (q >>= children r)) f

pub split_ok : (r : List ℕ → Reading Tree) (text r1 r2 r3 : List ℕ) (front : Front) (kids : List Tree) (n : ℕ) → word_at (codes "plit ") text ≡ Ok (tt, r1)
    → front_at r1 ≡ Ok (front, r2) → n ≡ length front.1.1.0 → times_at r n r2 ≡ Ok (kids, r3)
    → split_at r text ≡ Ok (variants.Split front.0 front.1.0 front.1.1.0 (record { steps = front.1.1.1 }) kids, r3)
split_ok r text r1 r2 r3 front kids n e f many g =
    split_front r text r1 r2 front e f
    ∙ (ap (λ (q : Reading (List Tree)). finish (q >>= λ (y : List Tree × List ℕ). let z : (Front × List Tree) × List ℕ = ((front, y.0), y.1) in Ok z))
    (ap (λ (k : ℕ). times_at r k r2) (sym many) ∙ g)
    ∙ ap (λ (t : Tree). let z : Tree × List ℕ = (t, r3) in Ok z) (rolls-Split front.0 front.1.0 front.1.1.0 (record { steps = front.1.1.1 }) kids))

pub split_stops : (r : List ℕ → Reading Tree) (text r1 r2 left : List ℕ) (front : Front) (n : ℕ) → word_at (codes "plit ") text ≡ Ok (tt, r1)
    → front_at r1 ≡ Ok (front, r2) → n ≡ length front.1.1.0 → times_at r n r2 ≡ Err left → split_at r text ≡ Err left
split_stops r text r1 r2 left front n e f many g =
    split_front r text r1 r2 front e f
    ∙ ap (λ (q : Reading (List Tree)). finish (q >>= λ (y : List Tree × List ℕ). let z : (Front × List Tree) × List ℕ = ((front, y.0), y.1) in Ok z))
    (ap (λ (k : ℕ). times_at r k r2) (sym many) ∙ g)

-- a split where one may stand
pub tree_split : (depth : ℕ) (text : List ℕ) → 0 < length text → get_or text 0 0 ≡ 115 → 0 < depth
    → tree_at depth text ≡ split_at (tree_at (depth - 1)) (take (length text - 1) (drop 1 text))
tree_split depth [] some letter high = absurd (omega arith)
tree_split zero (b ∷ text) some letter high = absurd (omega arith)
tree_split (suc depth) (b ∷ text) some letter high =
    ap (λ (c : ℕ). tree_at (suc depth) (c ∷ text)) letter ∙ (ap (λ (d : ℕ). split_at (tree_at d) text) (less depth)
    ∙ ap (λ (t : List ℕ). split_at (tree_at (suc depth - 1)) t) (sym (take_rest (b ∷ text) 1)))
  where
    less : (d : ℕ) → d ≡ suc d - 1
    less d = omega arith
