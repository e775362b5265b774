use Rattle.std.proofs.Common.{refl, arith}
use Rattle.basics.proofs.Bytewise.{slice_bytes}
use Rattle.packet.proofs.Decoding.{Decoded, decoded_lawful, decoded_written}
use Rattle.packet.proofs.read.read_header.Goals as goal

pub returns : goal.returns
returns c =
    let d : Decoded c.args.bytes.now _ = record {
      start = c.requires.start;
      long = c.requires.there;
      second = omega arith;
      priority_is = c.is_set-5.ensures;
      version_is = c.version.ensures;
      cipher_is = c.cipher.ensures;
      source_byte = omega arith;
      add = c.is_set.result;
      sseg = c.is_set-2.result;
      dseg = c.is_set-3.result;
      adr = c.is_set-4.result;
      add_is = c.is_set.ensures;
      sseg_is = c.is_set-2.ensures;
      dseg_is = c.is_set-3.ensures;
      adr_is = c.is_set-4.ensures;
      size_at = c.optional-route.result.1;
      source_at = c.optional-source_segment.result.1;
      target_at = c.optional-target_segment.result.1;
      data_at = c.optional-target.result.1;
      route_at = c.optional-route.ensures;
      source_segment_at = c.optional-source_segment.ensures;
      source_is = refl;
      target_segment_at = c.optional-target_segment.ensures;
      target_address_at = c.optional-target.ensures;
    } in
    record { bytes = slice_bytes c.args.bytes.now c.type_inv.bytes; lawful = decoded_lawful _ _ d; written = decoded_written _ _ d }
