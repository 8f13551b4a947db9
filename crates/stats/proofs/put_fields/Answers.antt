-- Its numbers, its strings, put one after another.
use Rattle.stats.specs.StatLaws.{fields_put}
use Rattle.stats.proofs.put_fields.Goals as goal

pub returns : goal.returns
returns c =
    fields_put c.put_u16-ty.ensures c.put_u32-dev.ensures c.put_u8-kind.ensures c.put_u32-version.ensures c.put_u64-path.ensures c.put_u32-mode.ensures c.put_u32-atime.ensures c.put_u32-mtime.ensures c.put_u64-length.ensures c.put_text-name.ensures c.put_text-uid.ensures c.put_text-gid.ensures c.put_text.ensures
