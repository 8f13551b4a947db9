-- Written by tools/messages from its table of messages.
-- A view says all: a message can be built again from its number and its values, so two messages, and two bodies, with one view are equal.
use Rattle.std.specs.Prelude.{ℕ, ◌≡◌, refl, true, false, List, eqb, Ok, Err}
use Rattle.std.proofs.Common.{sym, ap, ap₂, ◌∙◌}
use Rattle.fields.specs.Values.{Value}
use Rattle.layouts.specs.Bodies.{Answer, accepted, refused}
use Rattle.replies.specs.Views.{Rbody, type_r, values_r, view_r}
use Rattle.replies.specs.Made.{made_rversion, made_rwalk, made_rread, made_rwrite, made_rattach, made_rauth, made_rstatfs, made_rlopen, made_rlcreate, made_rsymlink, made_rmknod, made_rreadlink, made_rgetattr, made_rxattrwalk, made_rreaddir, made_rlock, made_rgetlock, made_rmkdir, made_rlerror}
use Rattle.replies.specs.declared.Rmessage.{Rmessage}
use Rattle.replies.specs.declared.Rmessage.TheVariants as M

unfoldable pub built : ℕ → List Value → Rmessage
built ty vs =
    elim (eqb ty 7) [
      | true ↦ M.Lerror (made_rlerror vs)
      | false ↦
          elim (eqb ty 9) [
            | true ↦ M.Statfs (made_rstatfs vs)
            | false ↦
                elim (eqb ty 13) [
                  | true ↦ M.Lopen (made_rlopen vs)
                  | false ↦
                      elim (eqb ty 15) [
                        | true ↦ M.Lcreate (made_rlcreate vs)
                        | false ↦
                            elim (eqb ty 17) [
                              | true ↦ M.Symlink (made_rsymlink vs)
                              | false ↦
                                  elim (eqb ty 19) [
                                    | true ↦ M.Mknod (made_rmknod vs)
                                    | false ↦
                                        elim (eqb ty 21) [
                                          | true ↦ M.Rename
                                          | false ↦
                                              elim (eqb ty 23) [
                                                | true ↦ M.Readlink (made_rreadlink vs)
                                                | false ↦
                                                    elim (eqb ty 25) [
                                                      | true ↦ M.GetAttr (made_rgetattr vs)
                                                      | false ↦
                                                          elim (eqb ty 27) [
                                                            | true ↦ M.SetAttr
                                                            | false ↦
                                                                elim (eqb ty 31) [
                                                                  | true ↦ M.XattrWalk (made_rxattrwalk vs)
                                                                  | false ↦
                                                                      elim (eqb ty 33) [
                                                                        | true ↦ M.XattrCreate
                                                                        | false ↦
                                                                            elim (eqb ty 41) [
                                                                              | true ↦ M.Readdir (made_rreaddir vs)
                                                                              | false ↦
                                                                                  elim (eqb ty 51) [
                                                                                    | true ↦ M.Fsync
                                                                                    | false ↦
                                                                                        elim (eqb ty 53) [
                                                                                          | true ↦ M.Lock (made_rlock vs)
                                                                                          | false ↦
                                                                                              elim (eqb ty 55) [
                                                                                                | true ↦ M.GetLock (made_rgetlock vs)
                                                                                                | false ↦
                                                                                                    elim (eqb ty 71) [
                                                                                                      | true ↦ M.Link
                                                                                                      | false ↦
                                                                                                          elim (eqb ty 73) [
                                                                                                            | true ↦ M.Mkdir (made_rmkdir vs)
                                                                                                            | false ↦
                                                                                                                elim (eqb ty 75) [
                                                                                                                  | true ↦ M.RenameAt
                                                                                                                  | false ↦
                                                                                                                      elim (eqb ty 77) [
                                                                                                                        | true ↦ M.UnlinkAt
                                                                                                                        | false ↦
                                                                                                                            elim (eqb ty 101) [
                                                                                                                              | true ↦ M.Version (made_rversion vs)
                                                                                                                              | false ↦
                                                                                                                                  elim (eqb ty 103) [
                                                                                                                                    | true ↦ M.Auth (made_rauth vs)
                                                                                                                                    | false ↦
                                                                                                                                        elim (eqb ty 105) [
                                                                                                                                          | true ↦ M.Attach (made_rattach vs)
                                                                                                                                          | false ↦
                                                                                                                                              elim (eqb ty 109) [
                                                                                                                                                | true ↦ M.Flush
                                                                                                                                                | false ↦
                                                                                                                                                    elim (eqb ty 111) [
                                                                                                                                                      | true ↦ M.Walk (made_rwalk vs)
                                                                                                                                                      | false ↦
                                                                                                                                                          elim (eqb ty 117) [
                                                                                                                                                            | true ↦ M.Read (made_rread vs)
                                                                                                                                                            | false ↦
                                                                                                                                                                elim (eqb ty 119) [
                                                                                                                                                                  | true ↦ M.Write (made_rwrite vs)
                                                                                                                                                                  | false ↦
                                                                                                                                                                      elim (eqb ty 121) [
                                                                                                                                                                        | true ↦ M.Clunk
                                                                                                                                                                        | false ↦
                                                                                                                                                                            M.Remove
                                                                                                                                                                      ]
                                                                                                                                                                ]
                                                                                                                                                          ]
                                                                                                                                                    ]
                                                                                                                                              ]
                                                                                                                                        ]
                                                                                                                                  ]
                                                                                                                            ]
                                                                                                                      ]
                                                                                                                ]
                                                                                                          ]
                                                                                                    ]
                                                                                              ]
                                                                                        ]
                                                                                  ]
                                                                            ]
                                                                      ]
                                                                ]
                                                          ]
                                                    ]
                                              ]
                                        ]
                                  ]
                            ]
                      ]
                ]
          ]
    ]

pub rebuilt : (m : Rmessage) → built (type_r m) (values_r m) ≡ m
unfolding built values_r
rebuilt (M.Version m) = refl
rebuilt M.Flush = refl
rebuilt (M.Walk m) = refl
rebuilt (M.Read m) = refl
rebuilt (M.Write m) = refl
rebuilt M.Clunk = refl
rebuilt M.Remove = refl
rebuilt (M.Attach m) = refl
rebuilt (M.Auth m) = refl
rebuilt (M.Statfs m) = refl
rebuilt (M.Lopen m) = refl
rebuilt (M.Lcreate m) = refl
rebuilt (M.Symlink m) = refl
rebuilt (M.Mknod m) = refl
rebuilt M.Rename = refl
rebuilt (M.Readlink m) = refl
rebuilt (M.GetAttr m) = refl
rebuilt M.SetAttr = refl
rebuilt (M.XattrWalk m) = refl
rebuilt M.XattrCreate = refl
rebuilt (M.Readdir m) = refl
rebuilt M.Fsync = refl
rebuilt (M.Lock m) = refl
rebuilt (M.GetLock m) = refl
rebuilt M.Link = refl
rebuilt (M.Mkdir m) = refl
rebuilt M.RenameAt = refl
rebuilt M.UnlinkAt = refl
rebuilt (M.Lerror m) = refl

pub one_message : (m m' : Rmessage) → type_r m ≡ type_r m' → values_r m ≡ values_r m' → m ≡ m'
one_message m m' e f = sym (rebuilt m) ∙ ap₂ built e f ∙ rebuilt m'

-- the body that an answer stands for
unfoldable pub body_in : Answer → Rbody
body_in (accepted ty vs n) = Ok (built ty vs, n)
body_in (refused k at) = Err (k, at)

rebodied : (r : Rbody) → body_in (view_r r) ≡ r
unfolding body_in view_r
rebodied (Ok (m, n)) = ap (λ (x : Rmessage). Ok (x, n)) (rebuilt m)
rebodied (Err f) = refl

pub one_body : (r r' : Rbody) → view_r r ≡ view_r r' → r ≡ r'
one_body r r' e = sym (rebodied r) ∙ ap body_in e ∙ rebodied r'
