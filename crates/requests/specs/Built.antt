-- Written by tools/messages from its table of messages.
-- A view says all: a message can be built again from its number and its values, so two messages, and two bodies, with one view are equal.
use Rattle.std.specs.Prelude.{ℕ, ◌≡◌, refl, true, false, List, eqb, Ok, Err}
use Rattle.std.proofs.Common.{sym, ap, ap₂, ◌∙◌}
use Rattle.fields.specs.Values.{Value}
use Rattle.layouts.specs.Bodies.{Answer, accepted, refused}
use Rattle.requests.specs.Views.{Tbody, type_t, values_t, view_t}
use Rattle.requests.specs.Made.{made_tversion, made_tflush, made_twalk, made_tread, made_twrite, made_tclunk, made_tremove, made_tattach, made_tauth, made_tstatfs, made_tlopen, made_tlcreate, made_tsymlink, made_tmknod, made_trename, made_treadlink, made_tgetattr, made_tsetattr, made_txattrwalk, made_txattrcreate, made_treaddir, made_tfsync, made_tlock, made_tgetlock, made_tlink, made_tmkdir, made_trenameat, made_tunlinkat}
use Rattle.requests.specs.declared.Tmessage.{Tmessage}
use Rattle.requests.specs.declared.Tmessage.TheVariants as M

unfoldable pub built : ℕ → List Value → Tmessage
built ty vs =
    elim (eqb ty 8) [
      | true ↦ M.Statfs (made_tstatfs vs)
      | false ↦
          elim (eqb ty 12) [
            | true ↦ M.Lopen (made_tlopen vs)
            | false ↦
                elim (eqb ty 14) [
                  | true ↦ M.Lcreate (made_tlcreate vs)
                  | false ↦
                      elim (eqb ty 16) [
                        | true ↦ M.Symlink (made_tsymlink vs)
                        | false ↦
                            elim (eqb ty 18) [
                              | true ↦ M.Mknod (made_tmknod vs)
                              | false ↦
                                  elim (eqb ty 20) [
                                    | true ↦ M.Rename (made_trename vs)
                                    | false ↦
                                        elim (eqb ty 22) [
                                          | true ↦ M.Readlink (made_treadlink vs)
                                          | false ↦
                                              elim (eqb ty 24) [
                                                | true ↦ M.GetAttr (made_tgetattr vs)
                                                | false ↦
                                                    elim (eqb ty 26) [
                                                      | true ↦ M.SetAttr (made_tsetattr vs)
                                                      | false ↦
                                                          elim (eqb ty 30) [
                                                            | true ↦ M.XattrWalk (made_txattrwalk vs)
                                                            | false ↦
                                                                elim (eqb ty 32) [
                                                                  | true ↦ M.XattrCreate (made_txattrcreate vs)
                                                                  | false ↦
                                                                      elim (eqb ty 40) [
                                                                        | true ↦ M.Readdir (made_treaddir vs)
                                                                        | false ↦
                                                                            elim (eqb ty 50) [
                                                                              | true ↦ M.Fsync (made_tfsync vs)
                                                                              | false ↦
                                                                                  elim (eqb ty 52) [
                                                                                    | true ↦ M.Lock (made_tlock vs)
                                                                                    | false ↦
                                                                                        elim (eqb ty 54) [
                                                                                          | true ↦ M.GetLock (made_tgetlock vs)
                                                                                          | false ↦
                                                                                              elim (eqb ty 70) [
                                                                                                | true ↦ M.Link (made_tlink vs)
                                                                                                | false ↦
                                                                                                    elim (eqb ty 72) [
                                                                                                      | true ↦ M.Mkdir (made_tmkdir vs)
                                                                                                      | false ↦
                                                                                                          elim (eqb ty 74) [
                                                                                                            | true ↦ M.RenameAt (made_trenameat vs)
                                                                                                            | false ↦
                                                                                                                elim (eqb ty 76) [
                                                                                                                  | true ↦ M.UnlinkAt (made_tunlinkat vs)
                                                                                                                  | false ↦
                                                                                                                      elim (eqb ty 100) [
                                                                                                                        | true ↦ M.Version (made_tversion vs)
                                                                                                                        | false ↦
                                                                                                                            elim (eqb ty 102) [
                                                                                                                              | true ↦ M.Auth (made_tauth vs)
                                                                                                                              | false ↦
                                                                                                                                  elim (eqb ty 104) [
                                                                                                                                    | true ↦ M.Attach (made_tattach vs)
                                                                                                                                    | false ↦
                                                                                                                                        elim (eqb ty 108) [
                                                                                                                                          | true ↦ M.Flush (made_tflush vs)
                                                                                                                                          | false ↦
                                                                                                                                              elim (eqb ty 110) [
                                                                                                                                                | true ↦ M.Walk (made_twalk vs)
                                                                                                                                                | false ↦
                                                                                                                                                    elim (eqb ty 116) [
                                                                                                                                                      | true ↦ M.Read (made_tread vs)
                                                                                                                                                      | false ↦
                                                                                                                                                          elim (eqb ty 118) [
                                                                                                                                                            | true ↦ M.Write (made_twrite vs)
                                                                                                                                                            | false ↦
                                                                                                                                                                elim (eqb ty 120) [
                                                                                                                                                                  | true ↦ M.Clunk (made_tclunk vs)
                                                                                                                                                                  | false ↦
                                                                                                                                                                      M.Remove (made_tremove vs)
                                                                                                                                                                ]
                                                                                                                                                          ]
                                                                                                                                                    ]
                                                                                                                                              ]
                                                                                                                                        ]
                                                                                                                                  ]
                                                                                                                            ]
                                                                                                                      ]
                                                                                                                ]
                                                                                                          ]
                                                                                                    ]
                                                                                              ]
                                                                                        ]
                                                                                  ]
                                                                            ]
                                                                      ]
                                                                ]
                                                          ]
                                                    ]
                                              ]
                                        ]
                                  ]
                            ]
                      ]
                ]
          ]
    ]

pub rebuilt : (m : Tmessage) → built (type_t m) (values_t m) ≡ m
unfolding built values_t
rebuilt (M.Version m) = refl
rebuilt (M.Flush m) = refl
rebuilt (M.Walk m) = refl
rebuilt (M.Read m) = refl
rebuilt (M.Write m) = refl
rebuilt (M.Clunk m) = refl
rebuilt (M.Remove m) = refl
rebuilt (M.Attach m) = refl
rebuilt (M.Auth m) = refl
rebuilt (M.Statfs m) = refl
rebuilt (M.Lopen m) = refl
rebuilt (M.Lcreate m) = refl
rebuilt (M.Symlink m) = refl
rebuilt (M.Mknod m) = refl
rebuilt (M.Rename m) = refl
rebuilt (M.Readlink m) = refl
rebuilt (M.GetAttr m) = refl
rebuilt (M.SetAttr m) = refl
rebuilt (M.XattrWalk m) = refl
rebuilt (M.XattrCreate m) = refl
rebuilt (M.Readdir m) = refl
rebuilt (M.Fsync m) = refl
rebuilt (M.Lock m) = refl
rebuilt (M.GetLock m) = refl
rebuilt (M.Link m) = refl
rebuilt (M.Mkdir m) = refl
rebuilt (M.RenameAt m) = refl
rebuilt (M.UnlinkAt m) = refl

pub one_message : (m m' : Tmessage) → type_t m ≡ type_t m' → values_t m ≡ values_t m' → m ≡ m'
one_message m m' e f = sym (rebuilt m) ∙ ap₂ built e f ∙ rebuilt m'

-- the body that an answer stands for
unfoldable pub body_in : Answer → Tbody
body_in (accepted ty vs n) = Ok (built ty vs, n)
body_in (refused k at) = Err (k, at)

rebodied : (r : Tbody) → body_in (view_t r) ≡ r
unfolding body_in view_t
rebodied (Ok (m, n)) = ap (λ (x : Tmessage). Ok (x, n)) (rebuilt m)
rebodied (Err f) = refl

pub one_body : (r r' : Tbody) → view_t r ≡ view_t r' → r ≡ r'
one_body r r' e = sym (rebodied r) ∙ ap body_in e ∙ rebodied r'
