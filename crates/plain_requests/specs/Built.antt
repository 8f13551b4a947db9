-- Written by tools/messages from its table of messages.
-- A view says all: a message can be built again from its number and its values, so two messages, and two bodies, with one view are equal.
use Rattle.std.specs.Prelude.{ℕ, ◌≡◌, refl, true, false, List, eqb, Ok, Err}
use Rattle.std.proofs.Common.{sym, ap, ap₂, ◌∙◌}
use Rattle.fields.specs.Values.{Value}
use Rattle.layouts.specs.Bodies.{Answer, accepted, refused}
use Rattle.plain_requests.specs.Views.{Tbody, type_t, values_t, view_t}
use Rattle.plain_requests.specs.Made.{made_tversion, made_tauth, made_tattach, made_tflush, made_twalk, made_topen, made_tcreate, made_tread, made_twrite, made_tclunk, made_tremove, made_tstat, made_twstat}
use Rattle.plain_requests.specs.declared.Tmessage.{Tmessage}
use Rattle.plain_requests.specs.declared.Tmessage.TheVariants as M

unfoldable pub built : ℕ → List Value → Tmessage
built ty vs =
    elim (eqb ty 100) [
      | true ↦ M.Version (made_tversion vs)
      | false ↦
          elim (eqb ty 102) [
            | true ↦ M.Auth (made_tauth vs)
            | false ↦
                elim (eqb ty 104) [
                  | true ↦ M.Attach (made_tattach vs)
                  | false ↦
                      elim (eqb ty 108) [
                        | true ↦ M.Flush (made_tflush vs)
                        | false ↦
                            elim (eqb ty 110) [
                              | true ↦ M.Walk (made_twalk vs)
                              | false ↦
                                  elim (eqb ty 112) [
                                    | true ↦ M.Open (made_topen vs)
                                    | false ↦
                                        elim (eqb ty 114) [
                                          | true ↦ M.Create (made_tcreate vs)
                                          | false ↦
                                              elim (eqb ty 116) [
                                                | true ↦ M.Read (made_tread vs)
                                                | false ↦
                                                    elim (eqb ty 118) [
                                                      | true ↦ M.Write (made_twrite vs)
                                                      | false ↦
                                                          elim (eqb ty 120) [
                                                            | true ↦ M.Clunk (made_tclunk vs)
                                                            | false ↦
                                                                elim (eqb ty 122) [
                                                                  | true ↦ M.Remove (made_tremove vs)
                                                                  | false ↦
                                                                      elim (eqb ty 124) [
                                                                        | true ↦ M.Stat (made_tstat vs)
                                                                        | false ↦
                                                                            M.Wstat (made_twstat vs)
                                                                      ]
                                                                ]
                                                          ]
                                                    ]
                                              ]
                                        ]
                                  ]
                            ]
                      ]
                ]
          ]
    ]

pub rebuilt : (m : Tmessage) → built (type_t m) (values_t m) ≡ m
unfolding built values_t
rebuilt (M.Version m) = refl
rebuilt (M.Auth m) = refl
rebuilt (M.Attach m) = refl
rebuilt (M.Flush m) = refl
rebuilt (M.Walk m) = refl
rebuilt (M.Open m) = refl
rebuilt (M.Create m) = refl
rebuilt (M.Read m) = refl
rebuilt (M.Write m) = refl
rebuilt (M.Clunk m) = refl
rebuilt (M.Remove m) = refl
rebuilt (M.Stat m) = refl
rebuilt (M.Wstat m) = refl

pub one_message : (m m' : Tmessage) → type_t m ≡ type_t m' → values_t m ≡ values_t m' → m ≡ m'
one_message m m' e f = sym (rebuilt m) ∙ ap₂ built e f ∙ rebuilt m'

-- the body that an answer stands for
unfoldable pub body_in : Answer → Tbody
body_in (accepted ty vs n) = Ok (built ty vs, n)
body_in (refused k at) = Err (k, at)

rebodied : (r : Tbody) → body_in (view_t r) ≡ r
unfolding body_in view_t
rebodied (Ok (m, n)) = ap (λ (x : Tmessage). Ok (x, n)) (rebuilt m)
rebodied (Err f) = refl

pub one_body : (r r' : Tbody) → view_t r ≡ view_t r' → r ≡ r'
one_body r r' e = sym (rebodied r) ∙ ap body_in e ∙ rebodied r'
