use Rattle.std.proofs.Common.{arith, rules}
use Rattle.text.specs.Characters.{Tail, Second}
use Rattle.text.proofs.Characters.{tested, one_first, two_told, three_last, four_read}
use Rattle.text.proofs.character.after_character.Goals as goal

pub returns-in-0-to-127 : goal.returns-in-0-to-127
returns-in-0-to-127 c = one_first _ _ _ c.in_ok-lead.ensures.cases.0 (omega arith)

pub returns-in-194-to-223 : goal.returns-in-194-to-223
returns-in-194-to-223 c =
    two_told _ _ _ c.in_ok-lead.ensures.cases.0 (omega arith) _
    (tested (Second c.in_ok-lead.lead.now) _ _ c.after_byte.ensures (search rules) (search rules))

pub returns-in_ok-after_byte-in-224-to-239 : goal.returns-in_ok-after_byte-in-224-to-239
returns-in_ok-after_byte-in-224-to-239 c =
    three_last _ _ _ c.in_ok-lead.ensures.cases.0 (omega arith) _ (search rules) _
    (tested Tail _ _ c.after_byte-in-224-to-239-2.ensures (search rules) (search rules))

pub returns-in-len3-up : goal.returns-in-len3-up
returns-in-len3-up c = four_read _ _ _ c.in_ok-lead.ensures.cases.0 (omega arith) (omega arith) (search rules) (search rules) (search rules)
