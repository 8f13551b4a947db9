-- A definition states for each record its values, in the order of its fields: here for a qid and for a directory entry.
use Rattle.std.specs.Prelude.{List, [], ◌∷◌}
use Rattle.strings.specs.declared.Span.{Span}
use Rattle.fields.specs.declared.Part.{Part}
use Rattle.fields.specs.Values.{Value, val, span, part}
use Rattle.layouts.specs.declared.qids.Qid.{Qid}
use Rattle.layouts.specs.declared.dirents.Dirent.{Dirent}

abbrev pub span_of : Span → Value
span_of v = span v.start v.len

abbrev pub part_of : Part → Value
part_of v = part v.count v.elements.start v.elements.len

abbrev pub qid : Qid → List Value
qid v = val v.ty ∷ val v.version ∷ val v.path ∷ []

abbrev pub dirent : Dirent → List Value
dirent m = val m.qid.ty ∷ val m.qid.version ∷ val m.qid.path ∷ val m.offset ∷ val m.ty ∷ span_of m.name ∷ []
