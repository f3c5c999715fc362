-- What the kinds in memory that never fail hold.
use Rattle.std.specs.Prelude.{ℕ, List, Some, None}
use Rattle.align_base.specs.Files.{Files, held_or_empty}
use Rattle.align_base.specs.Shelf.{ShelfAccount}
use Rattle.align_base.specs.Sink.{SinkAccount}
use Rattle.align_base.specs.declared.sure_shelf.SureShelf.{SureShelf}
use Rattle.align_base.specs.declared.sure_sink.SureSink.{SureSink}

-- the files of a shelf
abbrev pub sure_files : SureShelf → Files
sure_files s = s.files.items

-- what it is as a shelf: it tells, holds every name and never failed
abbrev pub sure_shelf_account : SureShelf → ShelfAccount
sure_shelf_account s = record {
  holding = Some (λ name. Some (held_or_empty s.files.items name));
  calls = s.calls;
  faults = 0;
  last_failed = None;
  seen = s.seen;
}

-- what a sink was given
abbrev pub sure_text : SureSink → List ℕ
sure_text s = s.text.items

-- what it is as a sink: it tells, and never failed
abbrev pub sure_sink_account : SureSink → SinkAccount
sure_sink_account s = record { written = Some s.text.items; calls = s.calls; faults = 0 }
