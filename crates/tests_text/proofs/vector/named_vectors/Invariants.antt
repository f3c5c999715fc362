use Rattle.std.proofs.Common.{◌≡◌, ◌-◌, ℕ, Option, length, take}
use Rattle.std.specs.Option.{option_map}
use Rattle.serde_json.specs.View.{view}
use Rattle.tests_text.specs.Shapes.{numerals}
use Rattle.tests_text.specs.Reading.{collected, name_at, vector_of}
use Rattle.tests_text.specs.Shapes.{member_of}
use Rattle.tests_text.proofs.Collecting.{before_those}
use Rattle.lane_views.specs.declared.Bytes32.{Bytes32}
use Rattle.tests_text.proofs.vector.named_vectors.Given as goal

-- the vectors so far, and those that are left
abbrev pub invariant-loop-n : goal.invariant-loop-n
invariant-loop-n l =
    let value : ℕ → Option Bytes32 = λ n. vector_of l.k n (member_of (option_map (λ v. view v.now) l.found) (name_at numerals n)) in
    (collected value 0 16 ≡ before_those (take l.n l.vecs) (collected value l.n (16 - l.n))) × (length l.vecs ≡ 16)
