-- The lines that are put one after another are those of the fold; the text fits the room.
use Rattle.numbers.specs.Place.{Place}
use Prim.Native.Nat.{ℕ}
use Rattle.std.specs.Prelude.{List}
use Rattle.layouts.specs.Tables.{table_t, table_r}
use Rattle.framing.proofs.ListingLaws.{listed}
use Rattle.listing.specs.Text.{PiecesPut, lines_from}
use Rattle.session.specs.declared.Session.{Session}
use Rattle.replaying.specs.Replays.{replayed, LinesPut}

-- ---- lines

-- the lines before position `at` are put, n of them, and the session is s: whatever puts those from there on has put the whole
pub record Upto (bs o : List ℕ) (p₀ : Place) (s : Session) (at n : ℕ) (o1 : List ℕ) (p : Place) : Type 0 where
  pub on : (o2 : List ℕ) (e : Place) → PiecesPut (lines_from n (replayed bs s (listed table_t table_r bs at))) o1 p o2 e → LinesPut bs o p₀ o2 e
