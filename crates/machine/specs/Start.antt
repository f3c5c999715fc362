-- Kept start states, and copies.
use Rattle.std.specs.Prelude.{◌≡◌, ℕ, List, map}
use Rattle.lane_views.specs.declared.Bytes32.{Bytes32}
use Rattle.memory_spans.specs.declared.region.Region.{Region}
use Rattle.memory_spans.specs.declared.span.Span.{Span}
use Rattle.machine.specs.Kept.{Kept, pure_of}
use Rattle.machine.specs.Machine.{no_flags}
use Rattle.memory_spans.specs.Spans.{contents}

-- the start state with these registers, vectors, spans, regions and number of declared stack bytes
abbrev pub kept_start : List ℕ → List Bytes32 → List Span → List Region → ℕ → Kept
kept_start regs vecs spans regions stack = record {
  regs = regs;
  entry = regs;
  flags = no_flags;
  vecs = map (λ (v : Bytes32). v.bytes) vecs;
  spans = spans;
  regions = regions;
  stack = stack;
  place = 0;
}

-- the same state, in spans of the same contents
pub record IsCopy (old new : Kept) : Type 0 where
  pub pure : pure_of new ≡ pure_of old
  pub spans : contents new.spans ≡ contents old.spans
