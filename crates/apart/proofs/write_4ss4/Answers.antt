-- Each field measured, then each field put, and both strings in the two slices lent as one.
use mathlib.Core.List.{[]}
use Rattle.numbers.proofs.Numbers.{bytes_all}
use Rattle.laying.proofs.LayingLaws.{measure, measure_numbers, measured_none, put_number, put_done}
use Rattle.apart.proofs.SecondLaws.{first_passed}
use Rattle.apart.proofs.ApartLaws.{measure_first, put_first, put_second, apart_written}
use Rattle.apart.proofs.write_4ss4.Goals as goal

pub measure_second-p3-requires : goal.measure_second-p3-requires
measure_second-p3-requires c = first_passed c.measure-p2.ensures

pub returns : goal.returns
returns c =
    let a = c.args in
    let x = a.first.now in
    let y = a.second.now in
    apart_written x y (bytes_all x (λ i. (c.type_inv.first i).fits)) (bytes_all y (λ i. (c.type_inv.second i).fits))
    (measure_numbers 4 [] c.advanced-p1.ensures (measure_first x y c.measure-p2.ensures (measure c.measure_second-p3.ensures (measure_numbers 4 [] c.advanced-end.ensures measured_none))))
    c.begun-start.ensures
    (put_number c.put_low-q1.ensures (put_first x y c.put-q2.ensures (put_second x y c.put-q3.ensures (put_number c.put_low.ensures put_done))))
