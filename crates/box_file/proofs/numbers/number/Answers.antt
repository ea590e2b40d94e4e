use Rattle.box_file.proofs.Names.{arith, sym, ◌∙◌}
use Rattle.std.proofs.lemmas.Str.Parse.{parse_digits}
use Rattle.box_file.proofs.NumberLaws.{digits, number_is, numeral_digits, numeral_is_text, ok_holds}
use Rattle.box_file.proofs.numbers.number.Goals as goal

pub returns-in_err-ok : goal.returns-in_err-ok
returns-in_err-ok c =
    grind (arith, numeral_is_text, c.from_utf8.ensures.cases, c.ok.ensures.value, c.in_err-ok.was, c.is_numeral.ensures, c.if-not-is_numeral.false)

pub returns : goal.returns
returns c =
    let same = ok_holds _ _ c.from_utf8.result c.in_ok-ok.field-0 c.from_utf8.ensures.cases (sym c.ok.ensures.value ∙ c.in_ok-ok.was) in
    let numeral = sym c.is_numeral.ensures ∙ c.if-not-is_numeral.false in
    c.ok-2.ensures.value ∙ number_is c.args.bytes.now c.parse.result numeral (parse_digits digits 32 c.args.bytes.now c.parse.result
    (rw same.0 at c.parse.ensures.value.0) (numeral_digits c.args.bytes.now numeral).0)
