use Prim.{search}
use Prim.Native.Nat.{ℕ}
use mathlib.Core.Path.{◌≡◌, sym, subst}
use mathlib.Core.List.{append-nil}
use Rattle.std.proofs.Common.{rules, false, List, Option, Some, slice_index_or, ◌∷◌, []}
use Rattle.std.proofs.Output.{has_written_of_eq, has_written_append}
use Rattle.std.specs.Fmt.{styled_digits_output, digits_output, padded_integral, shown_prefix, radix_prefix, DisplaysOnOk, ◌++?◌}
use Rattle.show.specs.Words.{two_digits}
use Rattle.show.proofs.Printed.{padded_digits, shown_as, hex_more}
use Rattle.show.proofs.HexDisplay.fmt.Goals as goal

pub loop-byte-init : goal.loop-byte-init
loop-byte-init g c plain =
    let known : styled_digits_output c.in_radix.result c.laid_out.result ≡ Some (two_digits (slice_index_or c.args.self.now.0.now 0 0)) = shown_as digits_output (λ s d. padded_integral s false (shown_prefix s (radix_prefix d.base))) c.in_radix.result _ _ _ _ c.laid_out.ensures c.in_radix.ensures (padded_digits _) in
    has_written_of_eq _ _ _ _ _ (sym (append-nil _))
    (subst (λ (o : Option (List ℕ)). DisplaysOnOk g.W.Write.write_str_gives c.args.f.now c.write.result o c.write.new.self) known c.write.ensures.writes plain (search rules))

pub loop-byte-preserved : goal.loop-byte-preserved
loop-byte-preserved g c plain =
    let known : styled_digits_output c.in_radix-in-loop-byte.result c.laid_out-in-loop-byte.result ≡ Some (two_digits _) = shown_as digits_output (λ s d. padded_integral s false (shown_prefix s (radix_prefix d.base))) c.in_radix-in-loop-byte.result _ _ _ _ c.laid_out-in-loop-byte.ensures c.in_radix-in-loop-byte.ensures (padded_digits _) in
    let before = c.loop-byte.invariant plain in
    has_written_of_eq _ _ _ _ _ (hex_more _ _ _ (search rules)) (has_written_append _ _ _ _ _ _ before
    (subst (λ (o : Option (List ℕ)). DisplaysOnOk g.W.Write.write_str_gives c.loop-byte.f c.write-in-loop-byte.result (Some (32 ∷ []) ++? o) c.write-in-loop-byte.new.self) known c.write-in-loop-byte.ensures.writes before.plain (search rules)))
