-- What the code reads of tests, and of a file of them, up to the first fault.
use Rattle.std.specs.Prelude.{ℕ, ◌+◌, nat_lt, if◌then◌else◌, List, [], ◌∷◌, Option, Some, None, Result, Ok, Err}
use Rattle.outcomes.specs.Firsts.{◌>>=◌}
use Rattle.lane_views.specs.declared.Bytes32.{Bytes32}
use Rattle.serde_json.specs.Data.{Data, Items, item, no_items}
use Rattle.tests_text.specs.declared.refusal.TestRefusal.{TestRefusal}
use Rattle.tests_text.specs.declared.refusal.TestRefusal.TheVariants.{BadShape, TooMany, TooManyBytes}
use Rattle.tests_text.specs.declared.test.Test.{Test}
use Rattle.tests_text.specs.declared.test.Tests.{Tests}
use Rattle.tests_text.specs.Reading.{bytes_of, outer_of, parts_of}

-- the test with these bytes of memory, where they can be read
abbrev pub test_with : ℕ → List ℕ → List Bytes32 → Option (List (ℕ × ℕ)) → Result Test TestRefusal
test_with k regs vecs None = Err (BadShape k)
test_with k regs vecs (Some bytes) = Ok (record { regs = regs; vecs = vecs; bytes = bytes })

-- the test with these parts, where they can be read and are not too many
abbrev pub test_by : ℕ → Option (List ℕ × List Bytes32 × Items × ℕ) → Result Test TestRefusal
test_by k None = Err (BadShape k)
test_by k (Some p) = if nat_lt 65536 p.3 then Err (TooManyBytes k) else test_with k p.0 p.1 (bytes_of p.2)

-- test k
unfoldable pub test_of : ℕ → Data → Result Test TestRefusal
test_of k d = test_by k (parts_of k d)

-- tests, numbered from k on
unfoldable pub tests_from : ℕ → Items → Result (List Test) TestRefusal
tests_from k no_items = Ok []
tests_from k (item d ds) = test_of k d >>= λ t. (tests_from (k + 1) ds >>= λ ts. Ok (t ∷ ts))

-- how many there are
abbrev pub count_of : Items → ℕ
count_of no_items = 0
count_of (item d ds) = count_of ds + 1

-- the tests of an outer value, in a list of at most 64
abbrev pub tests_in : Option Items → Result Tests TestRefusal
tests_in None = Err (BadShape 0)
tests_in (Some ds) = if nat_lt 64 (count_of ds) then Err TooMany else (tests_from 1 ds >>= λ ts. Ok (record { tests = ts }))

-- the tests of a JSON value
unfoldable pub file_of : Data → Result Tests TestRefusal
file_of d = tests_in (outer_of d)
