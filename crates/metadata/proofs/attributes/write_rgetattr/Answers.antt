-- Written by tools/messages from its table of messages.
-- Each field measured, then each field put, by the law of every writer.
-- over plain variables: said of the code itself, each field would carry the types of all that follow, which took 2.7 GB
use Prim.Native.Nat.{ℕ}
use mathlib.Core.List.{List, [], ◌∷◌}
use Rattle.numbers.specs.Numbers.{to_le}
use Rattle.numbers.proofs.Numbers.{bytes_all}
use Rattle.numbers.specs.Places.{Put}
use Rattle.numbers.specs.Place.{Place}
use Rattle.fields.specs.Values.{val}
use Rattle.laying.specs.Laying.{PutAll}
use Rattle.layouts.specs.Tables.{layout_rgetattr}
use Rattle.laying.proofs.LayingLaws.{measure_numbers, measured_none, put_number, put_done}
use Rattle.laying.proofs.WritingLaws.{written}
use Rattle.metadata.proofs.attributes.write_rgetattr.Goals as goal

all_put : {lent : List ℕ} {n1 n2 n3 n4 n5 n6 n7 n8 n9 n10 n11 n12 n13 n14 n15 n16 n17 n18 n19 n20 n21 n22 : ℕ} {o0 o1 o2 o3 o4 o5 o6 o7 o8 o9 o10 o11 o12 o13 o14 o15 o16 o17 o18 o19 o20 o21 o22 : List ℕ} {p0 p1 p2 p3 p4 p5 p6 p7 p8 p9 p10 p11 p12 p13 p14 p15 p16 p17 p18 p19 p20 p21 p22 : Place}
    → Put (to_le 8 n1) o0 p0 o1 p1
    → Put (to_le 1 n2) o1 p1 o2 p2
    → Put (to_le 4 n3) o2 p2 o3 p3
    → Put (to_le 8 n4) o3 p3 o4 p4
    → Put (to_le 4 n5) o4 p4 o5 p5
    → Put (to_le 4 n6) o5 p5 o6 p6
    → Put (to_le 4 n7) o6 p6 o7 p7
    → Put (to_le 8 n8) o7 p7 o8 p8
    → Put (to_le 8 n9) o8 p8 o9 p9
    → Put (to_le 8 n10) o9 p9 o10 p10
    → Put (to_le 8 n11) o10 p10 o11 p11
    → Put (to_le 8 n12) o11 p11 o12 p12
    → Put (to_le 8 n13) o12 p12 o13 p13
    → Put (to_le 8 n14) o13 p13 o14 p14
    → Put (to_le 8 n15) o14 p14 o15 p15
    → Put (to_le 8 n16) o15 p15 o16 p16
    → Put (to_le 8 n17) o16 p16 o17 p17
    → Put (to_le 8 n18) o17 p17 o18 p18
    → Put (to_le 8 n19) o18 p18 o19 p19
    → Put (to_le 8 n20) o19 p19 o20 p20
    → Put (to_le 8 n21) o20 p20 o21 p21
    → Put (to_le 8 n22) o21 p21 o22 p22
    → PutAll layout_rgetattr lent (val n1 ∷ val n2 ∷ val n3 ∷ val n4 ∷ val n5 ∷ val n6 ∷ val n7 ∷ val n8 ∷ val n9 ∷ val n10 ∷ val n11 ∷ val n12 ∷ val n13 ∷ val n14 ∷ val n15 ∷ val n16 ∷ val n17 ∷ val n18 ∷ val n19 ∷ val n20 ∷ val n21 ∷ val n22 ∷ []) o0 p0 o22 p22
all_put a1 a2 a3 a4 a5 a6 a7 a8 a9 a10 a11 a12 a13 a14 a15 a16 a17 a18 a19 a20 a21 a22 =
    put_number a1 (put_number a2 (put_number a3 (put_number a4 (put_number a5 (put_number a6 (put_number a7 (put_number a8 (put_number a9 (put_number a10 (put_number a11 (put_number a12 (put_number a13 (put_number a14 (put_number a15 (put_number a16 (put_number a17 (put_number a18 (put_number a19 (put_number a20 (put_number a21 (put_number a22 put_done)))))))))))))))))))))

pub returns : goal.returns
returns c =
    let b = bytes_all c.args.lent.now (λ i. (c.type_inv.lent i).fits) in
    written b (measure_numbers 8 (1 ∷ 4 ∷ 8 ∷ 4 ∷ 4 ∷ 4 ∷ 8 ∷ 8 ∷ 8 ∷ 8 ∷ 8 ∷ 8 ∷ 8 ∷ 8 ∷ 8 ∷ 8 ∷ 8 ∷ 8 ∷ 8 ∷ 8 ∷ 8 ∷ []) c.advanced-end.ensures measured_none) c.begun-start.ensures
    (all_put c.put_u64-q1.ensures c.put_u8-q2.ensures c.put_u32-q3.ensures c.put_u64-q4.ensures c.put_u32-q5.ensures c.put_u32-q6.ensures c.put_u32-q7.ensures c.put_u64-q8.ensures c.put_u64-q9.ensures c.put_u64-q10.ensures c.put_u64-q11.ensures c.put_u64-q12.ensures c.put_u64-q13.ensures c.put_u64-q14.ensures c.put_u64-q15.ensures c.put_u64-q16.ensures c.put_u64-q17.ensures c.put_u64-q18.ensures c.put_u64-q19.ensures c.put_u64-q20.ensures c.put_u64-q21.ensures c.put_u64.ensures)
