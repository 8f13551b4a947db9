use Rattle.places.proofs.PathLaws.{fits_root, fits_not, fits_older}
use mathlib.Core.Path.{◌∙◌}
use Rattle.places.proofs.Places.fits.Goals as goal

pub returns-then-older-at : goal.returns-then-older-at
returns-then-older-at c = let s = c.args.stretch.now in let p = c.args.self.now in let l = c.loop-at in fits_root s p.older p.starts p.lens l.at l.left c.if-older-at.true ∙ l.invariant

pub returns-then-left-text : goal.returns-then-left-text
returns-then-left-text c =
    let s = c.args.stretch.now in
    let p = c.args.self.now in
    let l = c.loop-at in
    let n = c.name_of.ensures in
    fits_not s p.older p.starts p.lens c.if-older-at.false n.0 n.1 l.left c.shown-text.ensures.is c.if-left-text.true ∙ l.invariant

pub loop-at-preserved : goal.loop-at-preserved
loop-at-preserved c =
    let s = c.args.stretch.now in
    let p = c.args.self.now in
    let l = c.loop-at in
    let n = c.name_of.ensures in
    fits_older s p.older p.starts p.lens c.if-older-at.false n.0 n.1 l.left c.shown-text.ensures.is c.if-left-text.false ∙ l.invariant
