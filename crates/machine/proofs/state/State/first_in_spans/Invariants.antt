use Rattle.std.proofs.Common.{◌≡◌, ◌⊎◌, ℕ, true, drop}
use Rattle.machine.specs.Difference.{SameByte}
use Rattle.memory_spans.specs.Spans.{is_spanned}
use Rattle.machine.specs.Kept.{pure_of}
use Rattle.machine.proofs.state.State.first_in_spans.Given as goal

-- no byte of the spans differs but of those still to come
abbrev pub invariant-loop-span : goal.invariant-loop-span
invariant-loop-span l = (x : ℕ) → is_spanned l.spans x ≡ true
    → (is_spanned (drop l.span-index l.spans) x ≡ true) ⊎ SameByte l.scratch (pure_of l.self) (pure_of l.other) x
