use Rattle.std.proofs.Common.{◌≡◌, [], ◌++◌, refl, rules, take, subst, sym, ap, ◌∙◌, append-nil, drop_of_length-le}
use Rattle.std.proofs.KnownBytes.{Appends-nil, Appends-trans}
use Rattle.std.specs.Io.KnownBytes.{Appends}
use Rattle.align_base.proofs.Streams.{prefix_grows}
use Rattle.align_base.proofs.whole.write_whole.Goals as goal

pub loop-rest-init : goal.loop-rest-init
loop-rest-init g c = ([], refl, Appends-nil _)

pub loop-rest-preserved : goal.loop-rest-preserved
loop-rest-preserved g c =
    let (prefix, whole, written) = c.loop-rest.invariant in
    (prefix ++ take c.in-Ok.count c.loop-rest.rest.now, prefix_grows _ prefix c.loop-rest.rest.now c.in-Ok.count whole, Appends-trans _ _ _ _ _ written c.in-Ok.ensures.bytes)

pub returns : goal.returns
returns g c =
    let (prefix, whole, written) = c.loop-rest.invariant in
    let rest = c.loop-rest.rest.now in
    let empty : rest ≡ [] = drop_of_length-le rest {i = 0} (search rules) in
    subst (Appends _ _) (sym (whole ∙ ap (λ l. prefix ++ l) empty ∙ append-nil prefix)) written
