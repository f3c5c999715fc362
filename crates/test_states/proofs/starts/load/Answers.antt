use Rattle.test_states.proofs.Loading.{admitted_ok, gives_refusal, gives_state}
use Rattle.test_states.proofs.starts.load.Goals as goal

pub returns-clause-admitted : goal.returns-clause-admitted
returns-clause-admitted c = admitted_ok c.args.admission.now c.args.test.now c.loaded.result c.loaded.ensures.exact c.loaded.ensures.start

pub returns-clause-loaded : goal.returns-clause-loaded
returns-clause-loaded c = gives_state c.args.admission.now c.args.test.now c.loaded.result c.loaded.ensures.exact

pub returns-clause-refused : goal.returns-clause-refused
returns-clause-refused c = gives_refusal c.args.admission.now c.args.test.now c.loaded.result c.loaded.ensures.exact
