-- The tests of a read, one after another from the newest written byte on.
use Rattle.std.proofs.Common.{◌≡◌, ℕ, zero, suc, ◌-◌, ◌^◌, ◌<◌, ◌≤◌, List, [], ◌∷◌, ◌++◌, Bool, true, false, length, take, get_or, sym, ◌∙◌, ap, subst, arith, inl, inr, if◌then◌else◌, add-one}
use Rattle.std.specs.Prelude.{reverse}
use Rattle.std.proofs.lemmas.Bool.{cases_Bool}
use Rattle.std.proofs.lemmas.List.{reverse-append, take_more}
use Rattle.std.proofs.Math.Seq.{take-length}
use Rattle.insn_ops.specs.declared.side.Side.{Side}
use Rattle.node_values.specs.declared.node.Node.{Node}
use Rattle.node_values.specs.declared.node.Node.TheVariants.{If, Start}
use Rattle.node_values.specs.declared.node.NodeId.{NodeId}
use Rattle.node_values.specs.Sheets.{Extends, IsSheet}
use Rattle.terms.specs.Made.{Made, made}
use Rattle.terms.specs.Rules.{is_number}
use Rattle.duty_claims.specs.declared.duty.Fixed.{Fixed}
use Rattle.address_nodes.specs.Multiples.{IsAddress, IsOfWidth}
use Rattle.address_nodes.proofs.Growing.{extends_trans, made_extends, stays, still_longer}
use Rattle.sym_memory.specs.declared.written.Place.{Place}
use Rattle.sym_memory.specs.declared.written.Written.{Written}
use Rattle.sym_memory.specs.Writes.{AreWritten}
use Rattle.sym_memory.specs.Reads.{byte_read, test}
use Rattle.sym_memory.specs.Choices.{with_choices}
use Rattle.sym_memory.proofs.Choosing.{choice_first}
use Rattle.sym_memory.proofs.Longer.{choices_longer, read_extends}

-- no written byte
abbrev pub no_written : Written
no_written = record { access = 0; at = record { 0 = 0 }; byte = 0; value = record { 0 = 0 } }

pub written_stay : (ns : List Node) → IsSheet ns → (later : List Node) → Extends ns later → (ws : List Written) → AreWritten ns ws → AreWritten later ws
written_stay ns sheet later ext [] h = tt
written_stay ns sheet later ext (w ∷ ws) h =
    ((stays ns sheet later ext 64 w.at h.0.0, stays ns sheet later ext 8 w.value h.0.1, h.0.2), written_stay ns sheet later ext ws h.1)

pub written_at : (ns : List Node) (ws : List Written) (at : ℕ) (d : Written) → at < length ws → AreWritten ns ws
    → IsAddress ns (get_or ws at d).at × IsOfWidth ns 8 (get_or ws at d).value × ((get_or ws at d).byte < 2 ^ 32)
written_at ns [] at d b h = absurd (omega arith)
written_at ns (w ∷ ws) zero d b h = h.0
written_at ns (w ∷ ws) (suc at) d b h = written_at ns ws at d (omega arith) h.1

-- the newest of the first written bytes stands first where they are turned
pub newest_first : (ws : List Written) (at : ℕ) (d : Written) → 0 < at → at ≤ length ws
    → reverse (take at ws) ≡ get_or ws (at - 1) d ∷ reverse (take (at - 1) ws)
newest_first ws zero d some inside = absurd (omega arith)
newest_first ws (suc at) d some inside =
    let e : suc at - 1 ≡ at = omega arith in
    let more : take (suc at) ws ≡ take at ws ++ get_or ws at d ∷ [] = rw (← add-one) (take_more ws at d (omega arith)) in
    rw e (ap reverse more ∙ reverse-append (take at ws) (get_or ws at d ∷ []))

module _ (side : Side) (fixed : List Fixed) (place : Place) (ws : List Written) (start now : List Node) (at : ℕ) (d : Written) (cs : List (NodeId × NodeId))
    (some : 0 < at) (inside : at ≤ length ws)
    (built : byte_read side fixed place (reverse ws) start ≡ with_choices cs (byte_read side fixed place (reverse (take at ws)) now)) where
  abbrev newest : Written
  newest = get_or ws (at - 1) d

  opened : byte_read side fixed place (reverse (take at ws)) now ≡ byte_read side fixed place (get_or ws (at - 1) d ∷ reverse (take (at - 1) ws)) now
  opened = ap (λ l. byte_read side fixed place l now) (newest_first ws at d some inside)

  -- what a test makes of the read
  abbrev by_test : Made → Bool → Made
  by_test t one =
      if one then record { nodes = t.nodes; id = (get_or ws (at - 1) d).value }
      else (let rest = byte_read side fixed place (reverse (take (at - 1) ws)) t.nodes in made rest.nodes (If t.id (get_or ws (at - 1) d).value rest.id))

  module _ (t : Made) (made_test : test fixed place (get_or ws (at - 1) d) now ≡ t) where
    step : byte_read side fixed place (get_or ws (at - 1) d ∷ reverse (take (at - 1) ws)) now ≡ by_test t (is_number t.nodes 1 t.id.0)
    unfolding byte_read
    step = ap (λ m. by_test m (is_number m.nodes 1 m.id.0)) made_test

    pub found : is_number t.nodes 1 t.id.0 ≡ true
        → byte_read side fixed place (reverse ws) start ≡ with_choices cs (record { nodes = t.nodes; id = (get_or ws (at - 1) d).value })
    found one = built ∙ ap (with_choices cs) (opened ∙ step ∙ ap (by_test t) one)

    pub passed : is_number t.nodes 1 t.id.0 ≡ false
        → byte_read side fixed place (reverse ws) start
        ≡ with_choices (cs ++ (t.id, (get_or ws (at - 1) d).value) ∷ []) (byte_read side fixed place (reverse (take (at - 1) ws)) t.nodes)
    passed other =
        built ∙ ap (with_choices cs) (opened ∙ step ∙ ap (by_test t) other)
        ∙ sym (choice_first cs (t.id, (get_or ws (at - 1) d).value) (byte_read side fixed place (reverse (take (at - 1) ws)) t.nodes))

  -- a test that is too long makes the read too long
  pub test_is_longer : 65536 < length (test fixed place (get_or ws (at - 1) d) now).nodes → 65536 < length (byte_read side fixed place (reverse ws) start).nodes
  unfolding byte_read
  test_is_longer h =
      let t : Made = test fixed place (get_or ws (at - 1) d) now in
      subst (λ m. 65536 < length m.nodes) (sym built)
      (choices_longer cs (byte_read side fixed place (reverse (take at ws)) now)
      (subst (λ m. 65536 < length m.nodes) (sym opened) (cons_longer (get_or ws (at - 1) d) (reverse (take (at - 1) ws)) h)))
    where
      cons_longer : (w : Written) (older : List Written) → 65536 < length (test fixed place w now).nodes → 65536 < length (byte_read side fixed place (w ∷ older) now).nodes
      cons_longer w older h =
          let t : Made = test fixed place w now in
          let rest : Made = byte_read side fixed place older t.nodes in
          elim (cases_Bool (is_number t.nodes 1 t.id.0)) [
            | inl one ↦ rw one h
            | inr other ↦
                rw other (still_longer t.nodes (made rest.nodes (If t.id w.value rest.id)).nodes
                (extends_trans t.nodes rest.nodes (made rest.nodes (If t.id w.value rest.id)).nodes (read_extends side fixed place older t.nodes)
                (made_extends rest.nodes (If t.id w.value rest.id))) h)
          ]

-- with no written byte left the byte of the start is read
pub at_start : (side : Side) (fixed : List Fixed) (place : Place) (ws : List Written) (start now : List Node) (at : ℕ) (cs : List (NodeId × NodeId))
    → at ≤ 0 → byte_read side fixed place (reverse ws) start ≡ with_choices cs (byte_read side fixed place (reverse (take at ws)) now)
    → byte_read side fixed place (reverse ws) start ≡ with_choices cs (made now (Start side place.address))
unfolding byte_read
at_start side fixed place ws start now zero cs none built = built
at_start side fixed place ws start now (suc at) cs none built = absurd (omega arith)

-- at first no test is built
pub no_tests : (side : Side) (fixed : List Fixed) (place : Place) (ws : List Written) (start : List Node)
    → byte_read side fixed place (reverse ws) start ≡ with_choices [] (byte_read side fixed place (reverse (take (length ws) ws)) start)
no_tests side fixed place ws start = ap (λ l. byte_read side fixed place (reverse l) start) (sym (take-length ws))
