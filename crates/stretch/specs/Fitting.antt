-- Written by tools/messages from its table of messages.
-- A record's numbers fit their fields where its machine value is well typed (`WT`), as that of what a program holds is (`Held.antt`).
use mir.Val.{WT}
use Rattle.framing.specs.ReadBack.{Readable}
use Rattle.framing.specs.Limits.{Limited}
use Rattle.requests.specs.Views.{layout_t, values_t}
use Rattle.requests.specs.declared.Tmessage.{Tmessage}
use Rattle.requests.specs.declared.Tmessage.TheVariants as M
use Rattle.requests.proofs.Tmessage.TheLaws.{lowered as loweredT, the_told as told}
use Rattle.replies.specs.Views.{layout_r, values_r}
use Rattle.replies.specs.declared.Rmessage.{Rmessage}
use Rattle.replies.specs.declared.Rmessage.TheVariants as Q
use Rattle.replies.proofs.Rmessage.TheLaws.{lowered as loweredR}

-- in the pair of a `Result` a request is told by its row, which says the same of each case
pub told_request : (m : Tmessage) → WT (told.val m) → WT (loweredT m)
told_request (M.Version m) g = g
told_request (M.Flush m) g = g
told_request (M.Walk m) g = g
told_request (M.Read m) g = g
told_request (M.Write m) g = g
told_request (M.Clunk m) g = g
told_request (M.Remove m) g = g
told_request (M.Attach m) g = g
told_request (M.Auth m) g = g
told_request (M.Statfs m) g = g
told_request (M.Lopen m) g = g
told_request (M.Lcreate m) g = g
told_request (M.Symlink m) g = g
told_request (M.Mknod m) g = g
told_request (M.Rename m) g = g
told_request (M.Readlink m) g = g
told_request (M.GetAttr m) g = g
told_request (M.SetAttr m) g = g
told_request (M.XattrWalk m) g = g
told_request (M.XattrCreate m) g = g
told_request (M.Readdir m) g = g
told_request (M.Fsync m) g = g
told_request (M.Lock m) g = g
told_request (M.GetLock m) g = g
told_request (M.Link m) g = g
told_request (M.Mkdir m) g = g
told_request (M.RenameAt m) g = g
told_request (M.UnlinkAt m) g = g

pub request_fits : (m : Tmessage) → WT (loweredT m) → Limited (layout_t m) (values_t m) → Readable (layout_t m) (values_t m)
unfolding layout_t values_t
request_fits (M.Version m) g l = (g.1.0.0.fits, (tt, tt))
request_fits (M.Flush m) g l = (g.1.0.0.0.fits, tt)
request_fits (M.Walk m) g l = (g.1.0.0.0.fits, (g.1.0.1.0.0.fits, (tt, tt)))
request_fits (M.Read m) g l = (g.1.0.0.0.fits, (g.1.0.1.0.fits, (g.1.0.1.1.0.fits, tt)))
request_fits (M.Write m) g l = (g.1.0.0.0.fits, (g.1.0.1.0.fits, (l.1.1.0, tt)))
request_fits (M.Clunk m) g l = (g.1.0.0.0.fits, tt)
request_fits (M.Remove m) g l = (g.1.0.0.0.fits, tt)
request_fits (M.Attach m) g l = (g.1.0.0.0.fits, (g.1.0.1.0.0.fits, (tt, (tt, (g.1.0.1.1.1.1.0.fits, tt)))))
request_fits (M.Auth m) g l = (g.1.0.0.0.fits, (tt, (tt, (g.1.0.1.1.1.0.fits, tt))))
request_fits (M.Statfs m) g l = (g.1.0.0.0.fits, tt)
request_fits (M.Lopen m) g l = (g.1.0.0.0.fits, (g.1.0.1.0.fits, tt))
request_fits (M.Lcreate m) g l = (g.1.0.0.0.fits, (tt, (g.1.0.1.1.0.fits, (g.1.0.1.1.1.0.fits, (g.1.0.1.1.1.1.0.0.fits, tt)))))
request_fits (M.Symlink m) g l = (g.1.0.0.0.fits, (tt, (tt, (g.1.0.1.1.1.0.0.fits, tt))))
request_fits (M.Mknod m) g l = (g.1.0.0.0.fits, (tt, (g.1.0.1.1.0.fits, (g.1.0.1.1.1.0.fits, (g.1.0.1.1.1.1.0.fits, (g.1.0.1.1.1.1.1.0.0.fits, tt))))))
request_fits (M.Rename m) g l = (g.1.0.0.0.fits, (g.1.0.1.0.0.fits, (tt, tt)))
request_fits (M.Readlink m) g l = (g.1.0.0.0.fits, tt)
request_fits (M.GetAttr m) g l = (g.1.0.0.0.fits, (g.1.0.1.0.fits, tt))
request_fits (M.SetAttr m) g l = (g.1.0.0.0.fits, (g.1.0.1.0.fits, (g.1.0.1.1.0.fits, (g.1.0.1.1.1.0.fits, (g.1.0.1.1.1.1.0.0.fits, (g.1.0.1.1.1.1.1.0.fits, (g.1.0.1.1.1.1.1.1.0.fits, (g.1.0.1.1.1.1.1.1.1.0.fits, (g.1.0.1.1.1.1.1.1.1.1.0.fits, (g.1.0.1.1.1.1.1.1.1.1.1.0.fits, tt))))))))))
request_fits (M.XattrWalk m) g l = (g.1.0.0.0.fits, (g.1.0.1.0.0.fits, (tt, tt)))
request_fits (M.XattrCreate m) g l = (g.1.0.0.0.fits, (tt, (g.1.0.1.1.0.fits, (g.1.0.1.1.1.0.fits, tt))))
request_fits (M.Readdir m) g l = (g.1.0.0.0.fits, (g.1.0.1.0.fits, (g.1.0.1.1.0.fits, tt)))
request_fits (M.Fsync m) g l = (g.1.0.0.0.fits, (g.1.0.1.0.fits, tt))
request_fits (M.Lock m) g l = (g.1.0.0.0.fits, (g.1.0.1.0.fits, (g.1.0.1.1.0.fits, (g.1.0.1.1.1.0.fits, (g.1.0.1.1.1.1.0.fits, (g.1.0.1.1.1.1.1.0.fits, (tt, tt)))))))
request_fits (M.GetLock m) g l = (g.1.0.0.0.fits, (g.1.0.1.0.fits, (g.1.0.1.1.0.fits, (g.1.0.1.1.1.0.fits, (g.1.0.1.1.1.1.0.fits, (tt, tt))))))
request_fits (M.Link m) g l = (g.1.0.0.0.fits, (g.1.0.1.0.0.fits, (tt, tt)))
request_fits (M.Mkdir m) g l = (g.1.0.0.0.fits, (tt, (g.1.0.1.1.0.fits, (g.1.0.1.1.1.0.0.fits, tt))))
request_fits (M.RenameAt m) g l = (g.1.0.0.0.fits, (tt, (g.1.0.1.1.0.0.fits, (tt, tt))))
request_fits (M.UnlinkAt m) g l = (g.1.0.0.0.fits, (tt, (g.1.0.1.1.0.fits, tt)))

pub reply_fits : (m : Rmessage) → WT (loweredR m) → Limited (layout_r m) (values_r m) → Readable (layout_r m) (values_r m)
unfolding layout_r values_r
reply_fits (Q.Version m) g l = (g.1.0.0.fits, (tt, tt))
reply_fits Q.Flush g l = tt
reply_fits (Q.Walk m) g l = (tt, tt)
reply_fits (Q.Read m) g l = (l.0, tt)
reply_fits (Q.Write m) g l = (g.1.0.0.fits, tt)
reply_fits Q.Clunk g l = tt
reply_fits Q.Remove g l = tt
reply_fits (Q.Attach m) g l = (g.1.0.0.0.fits, (g.1.0.0.1.0.fits, (g.1.0.0.1.1.0.fits, tt)))
reply_fits (Q.Auth m) g l = (g.1.0.0.0.fits, (g.1.0.0.1.0.fits, (g.1.0.0.1.1.0.fits, tt)))
reply_fits (Q.Statfs m) g l = (g.1.0.0.fits, (g.1.0.1.0.fits, (g.1.0.1.1.0.fits, (g.1.0.1.1.1.0.fits, (g.1.0.1.1.1.1.0.fits, (g.1.0.1.1.1.1.1.0.fits, (g.1.0.1.1.1.1.1.1.0.fits, (g.1.0.1.1.1.1.1.1.1.0.fits, (g.1.0.1.1.1.1.1.1.1.1.0.fits, tt)))))))))
reply_fits (Q.Lopen m) g l = (g.1.0.0.0.fits, (g.1.0.0.1.0.fits, (g.1.0.0.1.1.0.fits, (g.1.0.1.0.fits, tt))))
reply_fits (Q.Lcreate m) g l = (g.1.0.0.0.fits, (g.1.0.0.1.0.fits, (g.1.0.0.1.1.0.fits, (g.1.0.1.0.fits, tt))))
reply_fits (Q.Symlink m) g l = (g.1.0.0.0.fits, (g.1.0.0.1.0.fits, (g.1.0.0.1.1.0.fits, tt)))
reply_fits (Q.Mknod m) g l = (g.1.0.0.0.fits, (g.1.0.0.1.0.fits, (g.1.0.0.1.1.0.fits, tt)))
reply_fits Q.Rename g l = tt
reply_fits (Q.Readlink m) g l = (tt, tt)
reply_fits (Q.GetAttr m) g l = (g.1.0.0.fits, (g.1.0.1.0.0.fits, (g.1.0.1.0.1.0.fits, (g.1.0.1.0.1.1.0.fits, (g.1.0.1.1.0.fits, (g.1.0.1.1.1.0.fits, (g.1.0.1.1.1.1.0.0.fits, (g.1.0.1.1.1.1.1.0.fits, (g.1.0.1.1.1.1.1.1.0.fits, (g.1.0.1.1.1.1.1.1.1.0.fits, (g.1.0.1.1.1.1.1.1.1.1.0.fits, (g.1.0.1.1.1.1.1.1.1.1.1.0.fits, (g.1.0.1.1.1.1.1.1.1.1.1.1.0.fits, (g.1.0.1.1.1.1.1.1.1.1.1.1.1.0.fits, (g.1.0.1.1.1.1.1.1.1.1.1.1.1.1.0.fits, (g.1.0.1.1.1.1.1.1.1.1.1.1.1.1.1.0.fits, (g.1.0.1.1.1.1.1.1.1.1.1.1.1.1.1.1.0.fits, (g.1.0.1.1.1.1.1.1.1.1.1.1.1.1.1.1.1.0.fits, (g.1.0.1.1.1.1.1.1.1.1.1.1.1.1.1.1.1.1.0.fits, (g.1.0.1.1.1.1.1.1.1.1.1.1.1.1.1.1.1.1.1.0.fits, (g.1.0.1.1.1.1.1.1.1.1.1.1.1.1.1.1.1.1.1.1.0.fits, (g.1.0.1.1.1.1.1.1.1.1.1.1.1.1.1.1.1.1.1.1.1.0.fits, tt))))))))))))))))))))))
reply_fits Q.SetAttr g l = tt
reply_fits (Q.XattrWalk m) g l = (g.1.0.0.fits, tt)
reply_fits Q.XattrCreate g l = tt
reply_fits (Q.Readdir m) g l = (l.0, tt)
reply_fits Q.Fsync g l = tt
reply_fits (Q.Lock m) g l = (g.1.0.0.fits, tt)
reply_fits (Q.GetLock m) g l = (g.1.0.0.fits, (g.1.0.1.0.fits, (g.1.0.1.1.0.fits, (g.1.0.1.1.1.0.fits, (tt, tt)))))
reply_fits Q.Link g l = tt
reply_fits (Q.Mkdir m) g l = (g.1.0.0.0.fits, (g.1.0.0.1.0.fits, (g.1.0.0.1.1.0.fits, tt)))
reply_fits Q.RenameAt g l = tt
reply_fits Q.UnlinkAt g l = tt
reply_fits (Q.Lerror m) g l = (g.1.0.0.fits, tt)
