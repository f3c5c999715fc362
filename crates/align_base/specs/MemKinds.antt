-- Which calls of the kinds in memory fail: those whose numbers are listed, counted from 1.
use Rattle.std.specs.Prelude.{◌≡◌, ℕ, ◌==◌, Bool, true, false, ◌||◌, List, Option, Some, is_none, Result, Ok, Err}
use Rattle.std.specs.List.{list_any}
use Rattle.align_base.specs.Causes.{count_after}
use Rattle.align_base.specs.Files.{Files, first_held}
use Rattle.align_base.specs.Shelf.{ShelfAccount}
use Rattle.align_base.specs.Sink.{SinkAccount}
use Rattle.align_base.specs.declared.mem_shelf.MemShelf.{MemShelf}
use Rattle.align_base.specs.declared.mem_sink.MemSink.{MemSink}
use Rattle.align_base.specs.declared.shelf.TakeFault.{TakeFault}
use Rattle.align_base.specs.declared.shelf.TakeFault.TheVariants as take
use Rattle.align_base.specs.declared.shelf.PutFault.{PutFault}
use Rattle.align_base.specs.declared.shelf.PutFault.TheVariants as put
use Rattle.align_base.specs.declared.sink.GiveFault.{GiveFault}
use Rattle.align_base.specs.declared.sink.GiveFault.TheVariants as give

-- the number is among those of the calls that fail
abbrev pub is_listed : List ℕ → ℕ → Bool
is_listed failing call = list_any (λ n. n == call) failing

-- the files of a shelf
abbrev pub shelf_files : MemShelf → Files
shelf_files s = s.files.items

-- the numbers of its calls that fail
abbrev pub shelf_failing : MemShelf → List ℕ
shelf_failing s = s.failing.items

-- what it is as a shelf: it tells
abbrev pub shelf_account : MemShelf → ShelfAccount
shelf_account s = record {
  holding = Some (first_held s.files.items);
  calls = s.calls;
  faults = s.faults;
  last_failed = s.last_failed;
  seen = s.seen;
}

-- what a sink was given
abbrev pub sink_text : MemSink → List ℕ
sink_text s = s.text.items

-- the numbers of its calls that fail
abbrev pub sink_failing : MemSink → List ℕ
sink_failing s = s.failing.items

-- what it is as a sink: it tells
abbrev pub sink_account : MemSink → SinkAccount
sink_account s = record { written = Some s.text.items; calls = s.calls; faults = s.faults }

-- the next call of a shelf fails by its number
abbrev pub shelf_fails : MemShelf → Bool
shelf_fails s = is_listed s.failing.items (count_after s.calls 1)

-- the next call of a sink fails by its number
abbrev pub sink_fails : MemSink → Bool
sink_fails s = is_listed s.failing.items (count_after s.calls 1)

-- A take fails exactly where its number is listed or the name isn't held, unless out of memory.
abbrev pub TakeFails : {T : Type 0} → MemShelf → List ℕ → Result T TakeFault → Type 0
TakeFails s name (Ok bytes) = (shelf_fails s || is_none (first_held s.files.items name)) ≡ false
TakeFails s name (Err take.Failed) = (shelf_fails s || is_none (first_held s.files.items name)) ≡ true
TakeFails s name (Err (take.Large n)) = (shelf_fails s || is_none (first_held s.files.items name)) ≡ false
TakeFails s name (Err take.Memory) = Unit {0}

-- A put fails exactly where its number is listed, unless out of memory.
abbrev pub PutFails : {T : Type 0} → MemShelf → Result T PutFault → Type 0
PutFails s (Ok done) = shelf_fails s ≡ false
PutFails s (Err put.Failed) = shelf_fails s ≡ true
PutFails s (Err put.Memory) = Unit {0}

-- A give fails exactly where its number is listed, unless out of memory.
abbrev pub GiveFails : {T : Type 0} → MemSink → Result T GiveFault → Type 0
GiveFails s (Ok done) = sink_fails s ≡ false
GiveFails s (Err give.Failed) = sink_fails s ≡ true
GiveFails s (Err give.Memory) = Unit {0}
