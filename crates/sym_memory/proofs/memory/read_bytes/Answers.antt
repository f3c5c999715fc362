use Rattle.std.proofs.Common.{Err, sym, ◌∙◌, ap, length, ◌<◌}
use Rattle.address_nodes.proofs.Growing.{extends_trans, same_extends, stays}
use Rattle.address_nodes.proofs.Refusals.{handed_on}
use Rattle.sym_memory.specs.Reads.{bytes_read}
use Rattle.sym_memory.proofs.ByteLoops.{address_too_long, byte_more, byte_too_long, no_bytes}
use Rattle.sym_memory.proofs.Testing.{written_stay}
use Rattle.sym_memory.proofs.memory.read_bytes.Goals as goal

pub loop-byte-init : goal.loop-byte-init
loop-byte-init c = record {
  sheet = c.in_order.ensures.sheet;
  extends = same_extends c.args.sheet.now;
  address = c.requires.address;
  written = c.requires.written;
  built = no_bytes c.args.memory.now c.args.fixed.now c.args.access c.args.at c.args.sheet.now ∙ (λ i. record { nodes = c.args.sheet.now; bytes = sym c.new-read.ensures.items i });
}

pub returns-in_err-address-clause-full : goal.returns-in_err-address-clause-full
returns-in_err-address-clause-full c =
    let i = c.loop-byte.invariant in
    handed_on (65536 < length (bytes_read c.args.memory.now c.args.fixed.now c.args.access c.args.at c.args.bytes c.args.sheet.now).nodes) c.from_residual.result c.in_err-address.field-0.0 c.from_residual.ensures.1
    (λ full. address_too_long c.args.memory.now c.args.fixed.now c.args.access c.args.at c.args.sheet.now c.loop-byte.byte c.args.bytes
    (record { nodes = c.loop-byte.sheet; bytes = c.loop-byte.read.items }) c.loop-byte-test.true i.built (c.in_err-address.ensures.full (ap Err full)))

pub byte-requires-clause-written : goal.byte-requires-clause-written
byte-requires-clause-written c =
    let i = c.loop-byte.invariant in
    written_stay c.loop-byte.sheet i.sheet c.byte_address.new.sheet c.in_ok-address.ensures.extends c.args.memory.now.written i.written

pub returns-in_err-id-clause-full : goal.returns-in_err-id-clause-full
returns-in_err-id-clause-full c =
    let i = c.loop-byte.invariant in
    handed_on (65536 < length (bytes_read c.args.memory.now c.args.fixed.now c.args.access c.args.at c.args.bytes c.args.sheet.now).nodes) c.from_residual-in_err-id.result c.in_err-id.field-0.0 c.from_residual-in_err-id.ensures.1
    (λ full. byte_too_long c.args.memory.now c.args.fixed.now c.args.access c.args.at c.args.sheet.now c.loop-byte.byte c.args.bytes
    (record { nodes = c.loop-byte.sheet; bytes = c.loop-byte.read.items }) (record { nodes = c.byte_address.new.sheet; id = c.in_ok-address.address }) c.loop-byte-test.true i.built
    c.in_ok-address.ensures.made (c.in_err-id.ensures.full (ap Err full)))

pub loop-byte-preserved : goal.loop-byte-preserved
loop-byte-preserved c =
    let i = c.loop-byte.invariant in
    let both = extends_trans c.loop-byte.sheet c.byte_address.new.sheet c.byte.new.sheet c.in_ok-address.ensures.extends c.in_ok-id.ensures.extends in
    record {
      sheet = c.in_order-in-loop-byte-2.ensures.sheet;
      extends = extends_trans c.args.sheet.now c.loop-byte.sheet c.byte.new.sheet i.extends both;
      address = stays c.loop-byte.sheet i.sheet c.byte.new.sheet both 64 c.args.at i.address;
      written = written_stay c.loop-byte.sheet i.sheet c.byte.new.sheet both c.args.memory.now.written i.written;
      built = byte_more c.args.memory.now c.args.fixed.now c.args.access c.args.at c.args.sheet.now c.loop-byte.byte
          (record { nodes = c.loop-byte.sheet; bytes = c.loop-byte.read.items }) (record { nodes = c.byte_address.new.sheet; id = c.in_ok-address.address })
          (record { nodes = c.byte.new.sheet; id = c.in_ok-id.id }) i.built c.in_ok-address.ensures.made c.in_ok-id.ensures.made
          ∙ (λ j. record { nodes = c.byte.new.sheet; bytes = sym c.in_ok-push.ensures.items j });
    }
