use Rattle.std.proofs.Common.{◌≡◌, ◌<◌, ◌++◌, ◌∷◌, [], false, List, length, sym, ◌∙◌, ap, subst, arith, if◌then◌else◌}
use Rattle.std.specs.Prelude.{slice_index}
use Rattle.std.specs.List.{list_any}
use Rattle.node_values.specs.declared.node.Node.{Node}
use Rattle.node_values.specs.Nodes.{AreWordWidths, node_width}
use Rattle.node_values.specs.Sheets.{width_at}
use Rattle.node_forms.proofs.WidthLists.{same_widths, word_widths}
use Rattle.terms.specs.Kept.{IsKeptSheet}
use Rattle.terms.specs.Made.{is_same_node}
use Rattle.terms.proofs.MadeLaws.{not_found}
use Rattle.terms.proofs.WidthFacts.{kept_push}
use Rattle.terms.proofs.sheet.place.Goals as goal

pub width-requires-clause-widths : goal.width-requires-clause-widths
width-requires-clause-widths c =
    subst AreWordWidths (sym c.as_slice.ensures.value) (word_widths c.args.nodes.now.keys c.args.widths.now.items c.requires.kept.widths c.requires.kept.sheet)

pub returns-in-Ok-clause-placed : goal.returns-in-Ok-clause-placed
returns-in-Ok-clause-placed c =
    let absent : list_any (is_same_node c.args.node) c.args.nodes.now.keys ≡ false = sym c.in_default.ensures.found in
    let last = not_found (is_same_node c.args.node) c.args.nodes.now.keys absent in
    λ i. record { nodes = sym c.in-Ok.ensures.keys i; id = record { 0 = (last ∙ sym c.len-at.ensures.len) i } }

pub returns-in-Ok-clause-kept : goal.returns-in-Ok-clause-kept
returns-in-Ok-clause-kept c =
    let absent : list_any (is_same_node c.args.node) c.args.nodes.now.keys ≡ false = sym c.in_default.ensures.found in
    let keys : c.insert.new.self.keys ≡ c.args.nodes.now.keys ++ c.args.node ∷ [] =
    c.in-Ok.ensures.keys ∙ ap (λ t. if t then c.args.nodes.now.keys else c.args.nodes.now.keys ++ c.args.node ∷ []) absent in
    let bits : c.width.result ≡ node_width (width_at c.args.nodes.now.keys) c.args.node =
    c.width.ensures ∙ ap (λ ws. node_width (slice_index ws) c.args.node) c.as_slice.ensures.value
    ∙ ap (λ f. node_width f c.args.node) (same_widths c.args.nodes.now.keys c.args.widths.now.items c.requires.kept.widths) in
    let room : length c.args.nodes.now.keys < 65536 =
    let most = c.requires.kept.room in let not_full = c.if-at-eq65536.false in omega (arith, c.len-at.ensures.len) in
    let pushed = kept_push c.args.nodes.now.keys c.args.widths.now.items c.args.node c.width.result c.requires.kept c.requires.node room bits absent in
    let P : List Node → Type 0 = λ ns. IsKeptSheet ns c.push.new.self.items in
    subst P (sym keys) (subst (IsKeptSheet (c.args.nodes.now.keys ++ c.args.node ∷ [])) (sym c.in_ok-push.ensures.items) pushed)
