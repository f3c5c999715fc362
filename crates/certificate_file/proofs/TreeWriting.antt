-- The text of a tree, part by part.
use Rattle.std.proofs.Common.{◌≡◌, ℕ, ◌+◌, ◌<◌, ◌≤◌, List, ◌++◌, length, get_or, drop, sym, ap, ◌∙◌, append_assoc}
use Rattle.std.specs.Prelude.{codes, Result, Ok, Err, OnOk}
use Rattle.refutations.specs.declared.step.Step.{Step}
use Rattle.std.proofs.lemmas.List.{drop_more, drop_all, append-nil}
use Rattle.duty_claims.specs.declared.duty.Relation.{Relation}
use Rattle.refutations.specs.declared.step.Refutation.{Refutation}
use Rattle.refutations.specs.declared.tree.Tree.{Tree}
use Rattle.refutations.specs.declared.tree.Tree.TheOpen.{Leaf, Split}
use Rattle.refutations.specs.declared.tree.Tree.TheViews.{roll-Tree}
use Rattle.refutations.specs.declared.tree.Tree.TheFolds.{fold-roll-Tree}
use Rattle.text_codes.specs.Lists.{texts_of}
use Rattle.certificate_file.specs.Numbers.{lines_text}
use Rattle.certificate_file.specs.Steps.{step_text}
use Rattle.certificate_file.specs.Trees.{layer_text, split_text, tree_text}
use Rattle.certificate_file.proofs.TreeTexts.{joined-map}

pub leaf_is : (t : Tree) (shown : Refutation) → roll-Tree (Leaf shown) ≡ t → tree_text t ≡ codes "leaf " ++ lines_text step_text shown.steps
leaf_is t shown e = ap tree_text (sym e) ∙ fold-roll-Tree (List ℕ) layer_text (Leaf shown)

pub split_is : (t : Tree) (i j : ℕ) (rels : List Relation) (proof : Refutation) (kids : List Tree) → roll-Tree (Split i j rels proof kids) ≡ t
    → tree_text t ≡ split_text i j rels proof.steps ++ texts_of tree_text kids
split_is t i j rels proof kids e =
    ap tree_text (sym e) ∙ (fold-roll-Tree (List ℕ) layer_text (Split i j rels proof kids)
    ∙ ap (λ (x : List ℕ). split_text i j rels proof.steps ++ x) (joined-map kids))

-- one more of those that are left
pub one_out : {A : Type 0} (f : A → List ℕ) (out new : List ℕ) (items : List A) (i : ℕ) (x : A) → i < length items → x ≡ get_or items i x → new ≡ out ++ f x
    → new ++ texts_of f (drop (i + 1) items) ≡ out ++ texts_of f (drop i items)
unfolding texts_of
one_out {A = A} f out new items i x h is e =
    ap (λ (t : List ℕ). t ++ texts_of f (drop (i + 1) items)) e
    ∙ (append_assoc out (f x) (texts_of f (drop (i + 1) items))
    ∙ (ap (λ (y : A). out ++ (f y ++ texts_of f (drop (i + 1) items))) is
    ∙ ap (λ (ys : List A). out ++ texts_of f ys) (sym (drop_more items i x h))))

pub all_out : {A : Type 0} (f : A → List ℕ) (out : List ℕ) (items : List A) (i : ℕ) → length items ≤ i → out ≡ out ++ texts_of f (drop i items)
unfolding texts_of
all_out {A = A} f out items i h = sym (append-nil out) ∙ ap (λ (ys : List A). out ++ texts_of f ys) (sym (drop_all i items h))

-- what is out before the children
pub before_kids : (out new : List ℕ) (i j : ℕ) (rels rels2 : List Relation) (steps steps2 : List Step) (kids kids2 : List Tree) (t : Tree)
    → new ≡ out ++ split_text i j rels2 steps2 → rels2 ≡ rels → steps2 ≡ steps → kids2 ≡ kids
    → tree_text t ≡ split_text i j rels steps ++ texts_of tree_text kids → new ++ texts_of tree_text kids2 ≡ out ++ tree_text t
before_kids out new i j rels rels2 steps steps2 kids kids2 t e r s k whole =
    ap (λ (x : List ℕ). x ++ texts_of tree_text kids2) e
    ∙ (append_assoc out (split_text i j rels2 steps2) (texts_of tree_text kids2)
    ∙ (ap (λ (x : List Relation). out ++ (split_text i j x steps2 ++ texts_of tree_text kids2)) r
    ∙ (ap (λ (x : List Step). out ++ (split_text i j rels x ++ texts_of tree_text kids2)) s
    ∙ (ap (λ (x : List Tree). out ++ (split_text i j rels steps ++ texts_of tree_text x)) k
    ∙ ap (λ (x : List ℕ). out ++ x) (sym whole)))))

-- the whole of a leaf
pub leaf_out : {E : Type 0} (result : Result (Unit {0}) E) (out mid new word : List ℕ) (steps steps2 : List Step) (t : Tree)
    → OnOk result (new ≡ mid ++ lines_text step_text steps2) → mid ≡ out ++ word → steps2 ≡ steps → tree_text t ≡ word ++ lines_text step_text steps
    → OnOk result (new ≡ out ++ tree_text t)
leaf_out (Ok x) out mid new word steps steps2 t h m s whole =
    h ∙ (ap (λ (x : List ℕ). x ++ lines_text step_text steps2) m
    ∙ (append_assoc out word (lines_text step_text steps2)
    ∙ (ap (λ (x : List Step). out ++ (word ++ lines_text step_text x)) s ∙ ap (λ (x : List ℕ). out ++ x) (sym whole))))
leaf_out (Err e) out mid new word steps steps2 t h m s whole = h
