-- Written by tools/messages from its table of messages.
-- A view says all: a message can be built again from its number and its values, so two messages, and two bodies, with one view are equal.
use Rattle.std.specs.Prelude.{ℕ, ◌≡◌, refl, true, false, List, eqb, Ok, Err}
use Rattle.std.proofs.Common.{sym, ap, ap₂, ◌∙◌}
use Rattle.fields.specs.Values.{Value}
use Rattle.layouts.specs.Bodies.{Answer, accepted, refused}
use Rattle.unix_replies.specs.Views.{Rbody, type_r, values_r, view_r}
use Rattle.unix_replies.specs.Made.{made_rversion, made_rauth, made_rattach, made_rerror, made_rwalk, made_ropen, made_rcreate, made_rread, made_rwrite, made_rstat}
use Rattle.unix_replies.specs.declared.Rmessage.{Rmessage}
use Rattle.unix_replies.specs.declared.Rmessage.TheVariants as M

unfoldable pub built : ℕ → List Value → Rmessage
built ty vs =
    elim (eqb ty 101) [
      | true ↦ M.Version (made_rversion vs)
      | false ↦
          elim (eqb ty 103) [
            | true ↦ M.Auth (made_rauth vs)
            | false ↦
                elim (eqb ty 105) [
                  | true ↦ M.Attach (made_rattach vs)
                  | false ↦
                      elim (eqb ty 107) [
                        | true ↦ M.Error (made_rerror vs)
                        | false ↦
                            elim (eqb ty 109) [
                              | true ↦ M.Flush
                              | false ↦
                                  elim (eqb ty 111) [
                                    | true ↦ M.Walk (made_rwalk vs)
                                    | false ↦
                                        elim (eqb ty 113) [
                                          | true ↦ M.Open (made_ropen vs)
                                          | false ↦
                                              elim (eqb ty 115) [
                                                | true ↦ M.Create (made_rcreate vs)
                                                | false ↦
                                                    elim (eqb ty 117) [
                                                      | true ↦ M.Read (made_rread vs)
                                                      | false ↦
                                                          elim (eqb ty 119) [
                                                            | true ↦ M.Write (made_rwrite vs)
                                                            | false ↦
                                                                elim (eqb ty 121) [
                                                                  | true ↦ M.Clunk
                                                                  | false ↦
                                                                      elim (eqb ty 123) [
                                                                        | true ↦ M.Remove
                                                                        | false ↦
                                                                            elim (eqb ty 125) [
                                                                              | true ↦ M.Stat (made_rstat vs)
                                                                              | false ↦
                                                                                  M.Wstat
                                                                            ]
                                                                      ]
                                                                ]
                                                          ]
                                                    ]
                                              ]
                                        ]
                                  ]
                            ]
                      ]
                ]
          ]
    ]

pub rebuilt : (m : Rmessage) → built (type_r m) (values_r m) ≡ m
unfolding built values_r
rebuilt (M.Version m) = refl
rebuilt (M.Auth m) = refl
rebuilt (M.Attach m) = refl
rebuilt (M.Error m) = refl
rebuilt M.Flush = refl
rebuilt (M.Walk m) = refl
rebuilt (M.Open m) = refl
rebuilt (M.Create m) = refl
rebuilt (M.Read m) = refl
rebuilt (M.Write m) = refl
rebuilt M.Clunk = refl
rebuilt M.Remove = refl
rebuilt (M.Stat m) = refl
rebuilt M.Wstat = refl

pub one_message : (m m' : Rmessage) → type_r m ≡ type_r m' → values_r m ≡ values_r m' → m ≡ m'
one_message m m' e f = sym (rebuilt m) ∙ ap₂ built e f ∙ rebuilt m'

-- the body that an answer stands for
unfoldable pub body_in : Answer → Rbody
body_in (accepted ty vs n) = Ok (built ty vs, n)
body_in (refused k at) = Err (k, at)

rebodied : (r : Rbody) → body_in (view_r r) ≡ r
unfolding body_in view_r
rebodied (Ok (m, n)) = ap (λ (x : Rmessage). Ok (x, n)) (rebuilt m)
rebodied (Err f) = refl

pub one_body : (r r' : Rbody) → view_r r ≡ view_r r' → r ≡ r'
one_body r r' e = sym (rebodied r) ∙ ap body_in e ∙ rebodied r'
