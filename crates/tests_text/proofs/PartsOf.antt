-- The parts of a test, and the list of tests of an outer value.
use Rattle.std.proofs.Common.{◌≡◌, ℕ, Bool, true, false, cond, List, Option, Some, None, codes, refl, ap, ◌∙◌, subst}
use Rattle.std.proofs.lemmas.Option.{same_Some}
use Rattle.lane_views.specs.declared.Bytes32.{Bytes32}
use Rattle.serde_json.specs.Data.{Data, Items}
use Rattle.serde_json.specs.Find.{as_array, get}
use Rattle.tests_text.specs.declared.shape.Kind.TheVariants as kinds
use Rattle.tests_text.specs.declared.test.Test.{Test}
use Rattle.tests_text.specs.Shapes.{AreRegisters, AreVectors, IsTest, is_object}
use Rattle.tests_text.specs.TestFiles.{HasTests}
use Rattle.tests_text.specs.Reading.{◌>>=◌, outer_of, parts_of, pieces_of, registers_of, size_of, sized_pieces, vectors_of}
use Rattle.tests_text.proofs.Collecting.{bind-some}
use Rattle.tests_text.proofs.TestParts.{registers-known, registers-only, vectors-known, vectors-only}
use Rattle.tests_text.proofs.Values.{array-known}

chosen_then : {A : Type 0} (b : Bool) (x : Option A) (y : A) → cond b x None ≡ Some y → (b ≡ true) × (x ≡ Some y)
chosen_then true x y h = (refl, h)
chosen_then false x y h = absurd (cc)

abbrev pub Parts : Type 0
Parts = List ℕ × List Bytes32 × Items × ℕ

pub record IsParts (k : ℕ) (d : Data) (p : Parts) : Type 0 where
  pub named : is_object kinds.Test d ≡ true
  pub regs : AreRegisters k (get (codes "regs") d) p.0
  pub vecs : AreVectors k (get (codes "ymm") d) p.1
  pub pieces : pieces_of (get (codes "mem") d) ≡ Some p.2
  pub size : size_of 0 p.2 ≡ Some p.3

pub parts-known : (k : ℕ) (d : Data) (p : Parts) → parts_of k d ≡ Some p → IsParts k d p
unfolding parts_of
parts-known k d p h =
    let regs = bind-some (cond (is_object kinds.Test d) (registers_of k (get (codes "regs") d)) None)
    (λ regs. vectors_of k (get (codes "ymm") d) >>= λ vecs. (sized_pieces d >>= λ sized. Some (regs, vecs, sized.0, sized.1))) p h in
    let vecs = bind-some (vectors_of k (get (codes "ymm") d)) (λ vecs. sized_pieces d >>= λ sized. Some (regs.0, vecs, sized.0, sized.1)) p regs.2 in
    let sized = bind-some (sized_pieces d) (λ sized. Some (regs.0, vecs.0, sized.0, sized.1)) p vecs.2 in
    let pieces = bind-some (pieces_of (get (codes "mem") d)) (λ pieces. size_of 0 pieces >>= λ size. Some (pieces, size)) sized.0 sized.1 in
    let size = bind-some (size_of 0 pieces.0) (λ size. Some (pieces.0, size)) sized.0 pieces.2 in
    let both : ◌≡◌ {A = Items × ℕ} (pieces.0, size.0) sized.0 = same_Some (pieces.0, size.0) sized.0 size.2 in
    let same : ◌≡◌ {A = Parts} (regs.0, vecs.0, pieces.0, size.0) p =
    ap (λ (x : Items × ℕ). (regs.0, vecs.0, x.0, x.1)) both ∙ same_Some (regs.0, vecs.0, sized.0.0, sized.0.1) p sized.2 in
    let object = chosen_then (is_object kinds.Test d) (registers_of k (get (codes "regs") d)) regs.0 regs.1 in
    subst (IsParts k d) same
    (record {
      named = object.0;
      regs = registers-known k (get (codes "regs") d) regs.0 object.1;
      vecs = vectors-known k (get (codes "ymm") d) vecs.0 vecs.1;
      pieces = pieces.1;
      size = size.1;
    })

pub parts-only : (k : ℕ) (d : Data) (pieces : Items) (size : ℕ) (t : Test) → IsTest k d t
    → pieces_of (get (codes "mem") d) ≡ Some pieces → size_of 0 pieces ≡ Some size → parts_of k d ≡ Some (t.regs, t.vecs, pieces, size)
unfolding parts_of
parts-only k d pieces size t is found count =
    let object = is.named in
    let r = registers-only k (get (codes "regs") d) t.regs is.regs in
    let v = vectors-only k (get (codes "ymm") d) t.vecs is.vecs in
    rw (object, r, v, found, count) refl

pub outer-known : (d : Data) (ds : Items) → outer_of d ≡ Some ds → HasTests d ds
unfolding outer_of
outer-known d ds h =
    let found = bind-some (cond (is_object kinds.File d) (get (codes "tests") d) None) as_array ds h in
    let object = chosen_then (is_object kinds.File d) (get (codes "tests") d) found.0 found.1 in
    record { named = object.0; tests = object.1 ∙ ap (λ (x : Data). Some x) (array-known found.0 ds found.2) }

pub outer-only : (d : Data) (ds : Items) → HasTests d ds → outer_of d ≡ Some ds
unfolding outer_of
outer-only d ds has = rw (has.named, has.tests) refl
