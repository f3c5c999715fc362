-- What a State holds, seen as a kept state, and what each State keeps true.
use Rattle.std.specs.Prelude.{◌≡◌, length, map}
use Rattle.lane_views.specs.declared.Bytes32.{Bytes32}
use Rattle.machine.specs.declared.state.State.TheInside.{Inside}
use Rattle.machine.specs.Kept.{IsKept, Kept}

-- what is kept of a state, from the fields of the code
abbrev pub kept_of : Inside → Kept
kept_of s = record {
  regs = s.regs;
  entry = s.entry;
  flags = s.flags;
  vecs = map (λ (v : Bytes32). v.bytes) s.vecs;
  spans = s.spans.items;
  regions = s.regions.items;
  stack = s.stack;
  place = s.place;
}

-- sixteen registers now and at the entry, sixteen vectors, and a kept state
pub record IsHeld (k : Kept) : Type 0 where
  pub regs : length k.regs ≡ 16
  pub entry : length k.entry ≡ 16
  pub vecs : length k.vecs ≡ 16
  pub kept : IsKept k
