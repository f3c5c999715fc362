use Rattle.std.proofs.Common.{◌≡◌, ℕ, ◌+◌, ◌*◌, drop, length}
use Rattle.std.specs.Prelude.{slice_index}
use Rattle.node_forms.specs.Sums.{AreFalling, SameWord, listed_coefficient}
use Rattle.form_sums.specs.Made.{AreBelow}
use Rattle.form_sums.proofs.totals.Totals.add_all.Given as goal

-- the totals with the rest of the atoms are those with all of them
abbrev pub invariant-loop-atom : goal.invariant-loop-atom
invariant-loop-atom l =
    ((a : ℕ) → SameWord l.w (slice_index l.self a + l.weight * listed_coefficient (drop l.atom-index l.atoms) a)
    (slice_index l.initial.self a + l.weight * listed_coefficient l.atoms a))
    × AreBelow l.w l.self × (length l.self ≡ length l.initial.self) × AreFalling (length l.initial.self) (drop l.atom-index l.atoms)
