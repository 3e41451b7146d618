use Rattle.text.proofs.LineLaws.{word_room, word_put, number_room, number_put, decimal_bounded, bits_bounded}
use Rattle.text.proofs.put.Reader.put_value.Goals as goal

pub put_word-requires : goal.put_word-requires
put_word-requires c = (decimal_bounded _ c.in-Decimal.is c.requires.0, word_room c.args.value c.in-Decimal.is _ c.requires.1)

pub put_number-requires : goal.put_number-requires
put_number-requires c = (bits_bounded _ c.in-Bits.is c.requires.0, number_room c.args.value c.in-Bits.is _ c.requires.1)

pub returns-in-Decimal : goal.returns-in-Decimal
returns-in-Decimal c =
    let e = c.put_word.ensures in
    record { same = e.same.0; values = e.same.1; put = word_put c.args.value c.in-Decimal.is e.progress e.plan e.numbers }

pub returns-in-Bits : goal.returns-in-Bits
returns-in-Bits c =
    let e = c.put_number.ensures in
    record { same = e.same.0; values = e.same.1; put = number_put c.args.value c.in-Bits.is e.progress e.plan e.numbers }
