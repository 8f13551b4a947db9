-- What of 9P2000 and 9P2000.u can be read by the other (F16.3): of four messages one is a prefix of the other; of stats neither is.
use Rattle.std.specs.Prelude.{ℕ, ◌+◌, ◌<◌, ◌≡◌, length, take}
use Rattle.std.proofs.Math.Path.{refl}
use mathlib.Core.List.{List, [], ◌∷◌}
use Rattle.numbers.specs.Reading.{raw, read_num}
use Rattle.fields.specs.Layouts.{follow}
use Rattle.numbers.specs.Numbers.{Bytes}
use Rattle.numbers.specs.declared.Refusal.TheVariants as R
use Rattle.fields.specs.Values.{Value}
use Rattle.layouts.specs.Tables.{n4}
use Rattle.layouts.specs.Bodies.{accepted, refused}
use Rattle.layouts.specs.Plain as P
use Rattle.stats.specs.Unix as U
use Rattle.framing.specs.Frames.{framed, read_frame}
use Rattle.framing.specs.Local.{size_in}
use Rattle.unix_stretch.specs.Prefix.{number_short, Fewer, number_fewer, string_short, Without, string_without}
use Rattle.unix_stretch.specs.Boxes.{not_more, not_less, frame_apart}

module _ (s : List ℕ) (b : Bytes s) {p tag used : ℕ} {vs : List Value} where
  -- ---- n_uname after a Tauth, and after a Tattach

  pub tauth_short : read_frame P.table_t s ≡ framed p tag (accepted 102 vs used) → length (take (size_in s) s) < used + 4 → read_frame U.table_t s ≡ framed 0 tag (refused R.Short 0)
  tauth_short = number_short P.table_t U.table_t s b P.layout_tauth 4 refl refl

  pub tauth_fewer : read_frame U.table_t s ≡ framed p tag (accepted 102 vs used) → Fewer P.table_t 4 s 102 tag vs used
  tauth_fewer = number_fewer P.table_t U.table_t s b P.layout_tauth 4 refl refl

  pub tattach_short : read_frame P.table_t s ≡ framed p tag (accepted 104 vs used) → length (take (size_in s) s) < used + 4 → read_frame U.table_t s ≡ framed 0 tag (refused R.Short 0)
  tattach_short = number_short P.table_t U.table_t s b P.layout_tattach 4 refl refl

  pub tattach_fewer : read_frame U.table_t s ≡ framed p tag (accepted 104 vs used) → Fewer P.table_t 4 s 104 tag vs used
  tattach_fewer = number_fewer P.table_t U.table_t s b P.layout_tattach 4 refl refl

  -- ---- errno after an Rerror

  pub rerror_short : read_frame P.table_r s ≡ framed p tag (accepted 107 vs used) → length (take (size_in s) s) < used + 4 → read_frame U.table_r s ≡ framed 0 tag (refused R.Short 0)
  rerror_short = number_short P.table_r U.table_r s b P.layout_rerror 4 refl refl

  pub rerror_fewer : read_frame U.table_r s ≡ framed p tag (accepted 107 vs used) → Fewer P.table_r 4 s 107 tag vs used
  rerror_fewer = number_fewer P.table_r U.table_r s b P.layout_rerror 4 refl refl

  -- ---- an extension after a Tcreate

  pub tcreate_short : read_frame P.table_t s ≡ framed p tag (accepted 114 vs used) → length (take (size_in s) s) < used + 2 → read_frame U.table_t s ≡ framed 0 tag (refused R.Short 0)
  tcreate_short = string_short P.table_t U.table_t s b P.layout_tcreate refl refl

  pub tcreate_without : read_frame U.table_t s ≡ framed p tag (accepted 114 vs used) → Without P.table_t s 114 tag vs used
  tcreate_without = string_without P.table_t U.table_t s b P.layout_tcreate refl refl

  -- ---- a stat of one is 18 in the other, alone and after a fid

  pub rstat_not_longer : read_frame P.table_r s ≡ framed p tag (accepted 125 vs used) → read_frame U.table_r s ≡ framed 0 tag (refused R.StatMalformed 0)
  unfolding follow read_num raw
  rstat_not_longer = frame_apart P.table_r U.table_r s [] P.stat_shape U.stat_shape refl refl (not_more P.stat_shape U.more_shape refl)

  pub rstat_not_shorter : read_frame U.table_r s ≡ framed p tag (accepted 125 vs used) → read_frame P.table_r s ≡ framed 0 tag (refused R.StatMalformed 0)
  unfolding follow read_num raw
  rstat_not_shorter = frame_apart U.table_r P.table_r s [] U.stat_shape P.stat_shape refl refl (not_less P.stat_shape U.more_shape refl)

  pub twstat_not_longer : read_frame P.table_t s ≡ framed p tag (accepted 126 vs used) → read_frame U.table_t s ≡ framed 0 tag (refused R.StatMalformed 0)
  unfolding follow read_num raw
  twstat_not_longer = frame_apart P.table_t U.table_t s (n4 ∷ []) P.stat_shape U.stat_shape refl refl (not_more P.stat_shape U.more_shape refl)

  pub twstat_not_shorter : read_frame U.table_t s ≡ framed p tag (accepted 126 vs used) → read_frame P.table_t s ≡ framed 0 tag (refused R.StatMalformed 0)
  unfolding follow read_num raw
  twstat_not_shorter = frame_apart U.table_t P.table_t s (n4 ∷ []) U.stat_shape P.stat_shape refl refl (not_less P.stat_shape U.more_shape refl)
