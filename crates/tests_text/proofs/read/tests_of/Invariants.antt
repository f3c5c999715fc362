use Rattle.std.proofs.Common.{◌≡◌, ◌+◌, drop}
use Rattle.serde_json.specs.View.{items_view}
use Rattle.tests_text.specs.ReadingTests.{tests_from}
use Rattle.tests_text.proofs.Steps.{behind_those}
use Rattle.tests_text.proofs.read.tests_of.Given as goal

-- the tests so far, and those that are left
abbrev pub invariant-loop-value : goal.invariant-loop-value
invariant-loop-value l =
    (tests_from 1 (items_view l.values) ≡ behind_those l.tests (tests_from (l.k + 1) (items_view (drop l.value-index l.values)))) × (l.k ≡ l.value-index)
