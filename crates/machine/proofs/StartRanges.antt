-- The ranges of numbers in vectors and in start states.
use Rattle.std.proofs.Common.{refl, subst, ◌∙◌, ◌≡◌, ℕ, zero, suc, ◌<◌, ◌%◌, ◌^◌, List, [], ◌∷◌, length, map, slice_get, Option, Some}
use Rattle.std.specs.Prelude.{IfSome}
use Rattle.std.proofs.lemmas.List.{length-map}
use Rattle.std.specs.List.{All, AllByRecursion}
use Rattle.lane_views.specs.declared.Bytes32.{Bytes32}
use Rattle.memory_spans.specs.declared.region.Region.{Region}
use Rattle.memory_spans.specs.declared.span.Span.{Span}
use Rattle.machine.specs.Start.{kept_start}
use Rattle.memory_spans.specs.Spans.{byte_of}
use Rattle.machine.specs.Kept.{pure_of}
use Rattle.machine.specs.Machine.{AreRegs, AreVecs, IsStart}
use Rattle.std.proofs.lemmas.List.Elements.{recursion_from_All}
use Rattle.memory_spans.proofs.ByteRanges.{AreBytes}

-- 32 bytes
abbrev pub IsVec : List ℕ → Type 0
IsVec bytes = (length bytes ≡ 32) × AreBytes bytes

vec_at : (vecs : List Bytes32) → AllByRecursion (λ v. IsVec v.bytes) vecs → (n : ℕ) (v : List ℕ)
    → slice_get (map (λ (v : Bytes32). v.bytes) vecs) n ≡ Some v → IsVec v
vec_at [] hold n v is = cc
vec_at (x ∷ xs) hold zero v is = subst (λ (o : Option (List ℕ)). IfSome o IsVec) is hold.0
vec_at (x ∷ xs) hold (suc n) v is = vec_at xs hold.1 n v is

-- sixteen vectors of 32 bytes are in their ranges
pub vecs_in_range : (vecs : List Bytes32) → length vecs ≡ 16 → All (λ (v : Bytes32). IsVec v.bytes) vecs → AreVecs (map (λ (v : Bytes32). v.bytes) vecs)
vecs_in_range vecs sixteen hold = record { sixteen = length-map vecs (λ (v : Bytes32). v.bytes) ∙ sixteen; each = vec_at vecs (recursion_from_All (λ (v : Bytes32). IsVec v.bytes) vecs hold) }

-- what is kept of a start state means one
pub is_start : (regs : List ℕ) (vecs : List Bytes32) (spans read : List Span) (regions : List Region) (stack : ℕ)
    → AreRegs regs → AreVecs (map (λ (v : Bytes32). v.bytes) vecs) → read ≡ spans → ((at : ℕ) → byte_of read at < 256)
    → IsStart (pure_of (kept_start regs vecs spans regions stack))
is_start regs vecs spans read regions stack are_regs are_vecs same below = record {
  valid = record { regs = are_regs; entry = are_regs; vecs = are_vecs; memory = λ at. subst (λ (s : List Span). byte_of s (at % 2 ^ 64) < 256) same (below (at % 2 ^ 64)) };
  first = refl;
  entered = refl;
  unset = refl;
}
