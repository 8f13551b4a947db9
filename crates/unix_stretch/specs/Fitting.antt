-- Written by tools/messages from its table of messages.
-- A record's numbers fit their fields where its machine value is well typed (`WT`), as that of what a program holds is (`Held.antt`).
use mir.Val.{WT}
use Rattle.framing.specs.ReadBack.{Readable}
use Rattle.framing.specs.Limits.{Limited}
use Rattle.unix_requests.specs.Views.{layout_t, values_t}
use Rattle.unix_requests.specs.declared.Tmessage.{Tmessage}
use Rattle.unix_requests.specs.declared.Tmessage.TheVariants as M
use Rattle.unix_requests.proofs.Tmessage.TheLaws.{lowered as loweredT, the_told as told}
use Rattle.unix_replies.specs.Views.{layout_r, values_r}
use Rattle.unix_replies.specs.declared.Rmessage.{Rmessage}
use Rattle.unix_replies.specs.declared.Rmessage.TheVariants as Q
use Rattle.unix_replies.proofs.Rmessage.TheLaws.{lowered as loweredR}

-- in the pair of a `Result` a request is told by its row, which says the same of each case
pub told_request : (m : Tmessage) → WT (told.val m) → WT (loweredT m)
told_request (M.Version m) g = g
told_request (M.Auth m) g = g
told_request (M.Attach m) g = g
told_request (M.Flush m) g = g
told_request (M.Walk m) g = g
told_request (M.Open m) g = g
told_request (M.Create m) g = g
told_request (M.Read m) g = g
told_request (M.Write m) g = g
told_request (M.Clunk m) g = g
told_request (M.Remove m) g = g
told_request (M.Stat m) g = g
told_request (M.Wstat m) g = g

pub request_fits : (m : Tmessage) → WT (loweredT m) → Limited (layout_t m) (values_t m) → Readable (layout_t m) (values_t m)
unfolding layout_t values_t
request_fits (M.Version m) g l = (g.1.0.0.fits, (tt, tt))
request_fits (M.Auth m) g l = (g.1.0.0.0.fits, (tt, (tt, (g.1.0.1.1.1.0.fits, tt))))
request_fits (M.Attach m) g l = (g.1.0.0.0.fits, (g.1.0.1.0.0.fits, (tt, (tt, (g.1.0.1.1.1.1.0.fits, tt)))))
request_fits (M.Flush m) g l = (g.1.0.0.0.fits, tt)
request_fits (M.Walk m) g l = (g.1.0.0.0.fits, (g.1.0.1.0.0.fits, (tt, tt)))
request_fits (M.Open m) g l = (g.1.0.0.0.fits, (g.1.0.1.0.fits, tt))
request_fits (M.Create m) g l = (g.1.0.0.0.fits, (tt, (g.1.0.1.1.0.fits, (g.1.0.1.1.1.0.fits, (tt, tt)))))
request_fits (M.Read m) g l = (g.1.0.0.0.fits, (g.1.0.1.0.fits, (g.1.0.1.1.0.fits, tt)))
request_fits (M.Write m) g l = (g.1.0.0.0.fits, (g.1.0.1.0.fits, (l.1.1.0, tt)))
request_fits (M.Clunk m) g l = (g.1.0.0.0.fits, tt)
request_fits (M.Remove m) g l = (g.1.0.0.0.fits, tt)
request_fits (M.Stat m) g l = (g.1.0.0.0.fits, tt)
request_fits (M.Wstat m) g l = (g.1.0.0.0.fits, ((g.1.0.1.0.0.0.fits, (g.1.0.1.0.0.1.0.fits, (g.1.0.1.0.0.1.1.0.0.fits, (g.1.0.1.0.0.1.1.0.1.0.fits, (g.1.0.1.0.0.1.1.0.1.1.0.fits, (g.1.0.1.0.0.1.1.1.0.fits, (g.1.0.1.0.0.1.1.1.1.0.fits, (g.1.0.1.0.0.1.1.1.1.1.0.fits, (g.1.0.1.0.0.1.1.1.1.1.1.0.fits, (tt, (tt, (tt, (tt, (tt, (g.1.0.1.0.1.1.0.fits, (g.1.0.1.0.1.1.1.0.fits, (g.1.0.1.0.1.1.1.1.0.fits, tt))))))))))))))))), tt))

pub reply_fits : (m : Rmessage) → WT (loweredR m) → Limited (layout_r m) (values_r m) → Readable (layout_r m) (values_r m)
unfolding layout_r values_r
reply_fits (Q.Version m) g l = (g.1.0.0.fits, (tt, tt))
reply_fits (Q.Auth m) g l = (g.1.0.0.0.fits, (g.1.0.0.1.0.fits, (g.1.0.0.1.1.0.fits, tt)))
reply_fits (Q.Attach m) g l = (g.1.0.0.0.fits, (g.1.0.0.1.0.fits, (g.1.0.0.1.1.0.fits, tt)))
reply_fits (Q.Error m) g l = (tt, (g.1.0.1.0.fits, tt))
reply_fits Q.Flush g l = tt
reply_fits (Q.Walk m) g l = (tt, tt)
reply_fits (Q.Open m) g l = (g.1.0.0.0.fits, (g.1.0.0.1.0.fits, (g.1.0.0.1.1.0.fits, (g.1.0.1.0.fits, tt))))
reply_fits (Q.Create m) g l = (g.1.0.0.0.fits, (g.1.0.0.1.0.fits, (g.1.0.0.1.1.0.fits, (g.1.0.1.0.fits, tt))))
reply_fits (Q.Read m) g l = (l.0, tt)
reply_fits (Q.Write m) g l = (g.1.0.0.fits, tt)
reply_fits Q.Clunk g l = tt
reply_fits Q.Remove g l = tt
reply_fits (Q.Stat m) g l = ((g.1.0.0.0.0.fits, (g.1.0.0.0.1.0.fits, (g.1.0.0.0.1.1.0.0.fits, (g.1.0.0.0.1.1.0.1.0.fits, (g.1.0.0.0.1.1.0.1.1.0.fits, (g.1.0.0.0.1.1.1.0.fits, (g.1.0.0.0.1.1.1.1.0.fits, (g.1.0.0.0.1.1.1.1.1.0.fits, (g.1.0.0.0.1.1.1.1.1.1.0.fits, (tt, (tt, (tt, (tt, (tt, (g.1.0.0.1.1.0.fits, (g.1.0.0.1.1.1.0.fits, (g.1.0.0.1.1.1.1.0.fits, tt))))))))))))))))), tt)
reply_fits Q.Wstat g l = tt
