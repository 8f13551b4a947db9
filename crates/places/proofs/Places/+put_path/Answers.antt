-- The path of the older place is put, and then the name.
use native.Mathlib.Omega.{arith}
use mathlib.Core.Path.{refl}
use Rattle.places.proofs.PathLaws.{path_longer, put_root, put_older}
use Rattle.places.proofs.Places.+put_path.Goals as goal

pub put_path-n-requires : goal.put_path-n-requires
put_path-n-requires t c =
    let a = c.args in
    let p = a.self.now in
    let x = path_longer a.stretch.now p.older p.starts p.lens c.if-older-place.false refl refl in
    (omega arith, omega (arith, x, c.requires))

pub put_name-requires : goal.put_name-requires
put_name-requires t c =
    let a = c.args in
    let p = a.self.now in
    let x = path_longer a.stretch.now p.older p.starts p.lens c.if-older-place.false c.name_of.ensures.0 c.name_of.ensures.1 in
    omega (arith, x, c.requires, c.put_path-n.ensures.0, c.put_path-n.auto.out)

pub returns-then-older-place : goal.returns-then-older-place
returns-then-older-place t c = let a = c.args in let p = a.self.now in put_root a.stretch.now p.older p.starts p.lens a.place a.out.now c.if-older-place.true

pub returns : goal.returns
returns t c =
    let a = c.args in
    let p = a.self.now in
    put_older a.stretch.now p.older p.starts p.lens c.if-older-place.false c.name_of.ensures.0 c.name_of.ensures.1 a.out.now c.requires c.put_path-n.ensures.0 c.put_path-n.ensures.1 c.put_name.ensures.0 c.put_name.ensures.1
