use native.Mathlib.Omega.{arith}
use Rattle.formatter.proofs.TermLaws.{part_short, room_three, node_in, low, variable_written, name_inside, name_written, inner, list_written, first_of, first_fits, first_near, rest_of, last_written, more_written}
use Rattle.formatter.proofs.terms.+append_term_append_terms.Goals as goal

pub append_term-word_at-what-requires : goal.append_term-word_at-what-requires
append_term-word_at-what-requires t c = omega (arith, (room_three c.requires.stands).0)

pub append_term-append_variable-requires : goal.append_term-append_variable-requires
append_term-append_variable-requires t c = (low c.word_at-what.result c.word_at-what.ensures c.if-what-lt-FIRST_NAME.true c.requires.stands, omega (arith, c.requires.room))

pub append_term-returns-then-what-lt-FIRST_NAME : goal.append_term-returns-then-what-lt-FIRST_NAME
append_term-returns-then-what-lt-FIRST_NAME t c = variable_written c.word_at-what.result c.word_at-what.ensures c.if-what-lt-FIRST_NAME.true c.append_variable.ensures

pub append_term-word_at-place-requires : goal.append_term-word_at-place-requires
append_term-word_at-place-requires t c = omega (arith, (room_three c.requires.stands).0)

pub append_term-append_part-past_name-requires : goal.append_term-append_part-past_name-requires
append_term-append_part-past_name-requires t c =
    let n = name_inside c.word_at-what.result c.word_at-what.ensures c.if-what-lt-FIRST_NAME.false c.length_of-len.result c.word_at-place.result c.length_of-len.ensures c.word_at-place.ensures c.requires.stands in
    (n.0, omega (arith, n.1, c.requires.room))

pub append_term-past-stop-requires : goal.append_term-past-stop-requires
append_term-past-stop-requires t c = node_in c.requires.stands

pub append_term-returns-then-stop-from : goal.append_term-returns-then-stop-from
append_term-returns-then-stop-from t c =
    name_written c.word_at-what.result c.word_at-what.ensures c.if-what-lt-FIRST_NAME.false c.length_of-len.result c.word_at-place.result c.past-stop.result
    c.length_of-len.ensures c.word_at-place.ensures c.past-stop.ensures c.if-stop-from.true c.append_part-past_name.ensures

pub append_term-append_terms-requires : goal.append_term-append_terms-requires
append_term-append_terms-requires t c =
    let k = name_inside c.word_at-what.result c.word_at-what.ensures c.if-what-lt-FIRST_NAME.false c.length_of-len.result c.word_at-place.result c.length_of-len.ensures c.word_at-place.ensures c.requires.stands in (
      omega (arith, c.past-stop.ensures, (room_three c.requires.stands).1),
      (
        inner c.word_at-what.result c.word_at-what.ensures c.if-what-lt-FIRST_NAME.false c.length_of-len.result c.word_at-place.result c.past-stop.result
            c.length_of-len.ensures c.word_at-place.ensures c.past-stop.ensures c.if-stop-from.false c.requires.stands,
        (c.if-stop-from.false, omega (arith, k.1, c.past-stop.ensures, c.requires.room, part_short c.args.read.text.now c.word_at-place.result c.length_of-len.result, c.append_part-past_name.ensures.past, c.append_byte-past_open.ensures.past)),
      ),
    )

pub append_term-returns : goal.append_term-returns
append_term-returns t c =
    list_written c.word_at-what.result c.word_at-what.ensures c.if-what-lt-FIRST_NAME.false c.length_of-len.result c.word_at-place.result c.past-stop.result
    c.length_of-len.ensures c.word_at-place.ensures c.past-stop.ensures c.if-stop-from.false c.append_part-past_name.ensures c.append_byte-past_open.ensures c.append_terms.ensures

pub append_terms-append_term-past_first-requires : goal.append_terms-append_term-past_first-requires
append_terms-append_term-past_first-requires t c =
    let f = first_fits c.requires.some c.requires.stand in
    (omega (arith, f.0, f.1), (first_of c.requires.some c.requires.stand, omega (arith, f.0, c.requires.room)))

pub append_terms-past-next-requires : goal.append_terms-past-next-requires
append_terms-past-next-requires t c = node_in (first_of c.requires.some c.requires.stand)

pub append_terms-append_byte-requires : goal.append_terms-append_byte-requires
append_terms-append_byte-requires t c =
    let f = first_fits c.requires.some c.requires.stand in omega (arith, f.0, c.requires.room, first_near c.requires.some c.requires.stand c.append_term-past_first.ensures)

pub append_terms-returns-then-stop-next : goal.append_terms-returns-then-stop-next
append_terms-returns-then-stop-next t c =
    last_written c.requires.some c.past-next.result c.past-next.ensures c.if-stop-next.true c.append_term-past_first.ensures c.append_byte.ensures

pub append_terms-append_terms-requires : goal.append_terms-append_terms-requires
append_terms-append_terms-requires t c =
    let f = first_fits c.requires.some c.requires.stand in (
      omega (arith, f.0, f.1, c.past-next.ensures),
      (
        rest_of c.requires.some c.past-next.result c.past-next.ensures c.requires.stand,
        (c.if-stop-next.false, omega (arith, f.0, c.past-next.ensures, c.requires.room, first_near c.requires.some c.requires.stand c.append_term-past_first.ensures, c.append_byte-past_comma.ensures.past)),
      ),
    )

pub append_terms-returns : goal.append_terms-returns
append_terms-returns t c =
    more_written c.requires.some c.past-next.result c.past-next.ensures c.if-stop-next.false c.append_term-past_first.ensures c.append_byte-past_comma.ensures c.append_terms.ensures

pub append_terms-append_byte-past_comma-requires : goal.append_terms-append_byte-past_comma-requires
append_terms-append_byte-past_comma-requires t c =
    let f = first_fits c.requires.some c.requires.stand in
    omega (arith, f.0, c.requires.room, first_near c.requires.some c.requires.stand c.append_term-past_first.ensures)
