use Rattle.serde_json.specs.View.{view}
use Rattle.tests_text.specs.TestFiles.{IsJson}
use Rattle.tests_text.proofs.TestFaults.{value-gives, value-reads, value-refused}
use Rattle.tests_text.proofs.read.read_tests.Goals as goal

pub returns-in-Ok-clause-exact : goal.returns-in-Ok-clause-exact
returns-in-Ok-clause-exact c =
    let json : IsJson c.args.bytes.now (view c.in-Ok.value) = record { utf8 = c.in-Ok.ensures.ok.0; value = c.in-Ok.ensures.ok.1 } in
    value-reads c.args.bytes.now (view c.in-Ok.value) c.file_of.result json c.file_of.ensures

pub returns-in-Ok-clause-only : goal.returns-in-Ok-clause-only
returns-in-Ok-clause-only c =
    let json : IsJson c.args.bytes.now (view c.in-Ok.value) = record { utf8 = c.in-Ok.ensures.ok.0; value = c.in-Ok.ensures.ok.1 } in
    value-gives c.args.bytes.now (view c.in-Ok.value) c.file_of.result json c.file_of.ensures

pub returns-in-Ok-clause-refused : goal.returns-in-Ok-clause-refused
returns-in-Ok-clause-refused c =
    let json : IsJson c.args.bytes.now (view c.in-Ok.value) = record { utf8 = c.in-Ok.ensures.ok.0; value = c.in-Ok.ensures.ok.1 } in
    value-refused c.args.bytes.now (view c.in-Ok.value) c.file_of.result json c.file_of.ensures
