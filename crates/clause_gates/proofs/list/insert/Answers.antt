use Rattle.std.proofs.Common.{◌≡◌, sym, ◌∙◌, ap, Some}
use Rattle.std.specs.Prelude.{slice_get}
use Rattle.std.specs.List.{insert}
use Rattle.clause_gates.proofs.Places.{found_at, missing_at, place, sign_there}
use Rattle.clause_gates.proofs.list.insert.Goals as goal

pub returns-in-Some : goal.returns-in-Some
returns-in-Some c =
    let e : c.lower-at.result ≡ place c.args.lit.var c.args.kept.now.items =
    c.lower-at.ensures.value ∙ ap (place c.args.lit.var) c.as_slice.ensures.value in
    let f : c.sign_at.result ≡ sign_there c.args.lit.var (slice_get c.args.kept.now.items c.lower-at.result) =
    c.sign_at.ensures ∙ ap (λ ks. sign_there c.args.lit.var (slice_get ks c.lower-at.result)) c.as_slice-2.ensures.value in
    found_at c.args.lit c.args.kept.now.items c.lower-at.result c.sign_at.result c.in-Some.neg e f c.in-Some.is

pub returns-in_ok-insert-in-None : goal.returns-in_ok-insert-in-None
returns-in_ok-insert-in-None c =
    let e : c.lower-at.result ≡ place c.args.lit.var c.args.kept.now.items =
    c.lower-at.ensures.value ∙ ap (place c.args.lit.var) c.as_slice.ensures.value in
    let f : c.sign_at.result ≡ sign_there c.args.lit.var (slice_get c.args.kept.now.items c.lower-at.result) =
    c.sign_at.ensures ∙ ap (λ ks. sign_there c.args.lit.var (slice_get ks c.lower-at.result)) c.as_slice-2.ensures.value in
    let new : c.insert.new.self.items ≡ insert c.args.kept.now.items c.lower-at.result c.args.lit =
    c.in_ok-insert-in-None.ensures.items in
    missing_at c.args.lit c.args.kept.now.items c.lower-at.result c.sign_at.result e f c.in-None.is ∙ ap Some (sym new)
