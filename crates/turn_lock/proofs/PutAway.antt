-- The lock's own seat: the machine has it as a struct of its badge, and it owns what its badge owns.
use Rattle.std.proofs.Common.{List, [], ◌∷◌, refl}
use seplogic.Ra.Ura.{Ura}
use mir.Val.{Val, vstruct, vcons, vnil}
use base.Logic.{ent}
use base.Fml.{fsep, feq}
use types.Logic.{Logic, sem}
use types.Kit.{‵, ◌$◌, ◌∵◌, !, qed, keep, move, rewrite, fsplit, fsplit3, fjoin, fpick, fpack, feq_i, done}
use denote.RattleType.{RattleType, Valss, flat, owns}
use denote.Laws.{Is, Tells, shows}
use denote.Steps.{nothing, peeks}
use denote.Struct.Owning.{shape}
use denote.Struct.Struct.{Struct-Tells}
use Rattle.atomic_table.proofs.Fields.{token_val, pin_told}
use Rattle.atomic_table.specs.contracts.badge.Badge as badge
use Rattle.turn_lock.specs.contracts.own_seat.OwnSeat as own_seat

-- the machine's value: no byte, within two structs
abbrev pub put_value : Val
put_value = vstruct (vcons token_val vnil)

module _ (V : RattleType) where
  abbrev pub Held : RattleType
  Held = badge.the_row V

  abbrev pub Put : RattleType
  Put = own_seat.the_row V

  pub held_told : Tells Held (Is Held) (λ _. token_val ∷ [])
  held_told x vs is = pin_told V vs is.0

  pub put_told : Tells Put (Is Put) (λ _. put_value ∷ [])
  put_told d vs is = Struct-Tells (shape (own_seat.the_type V)) ((λ _. token_val ∷ []), tt) (held_told, tt) (d.badge, tt) vs is.0

  module _ {M : Type 1} {𝓤 : Ura M} (𝓛 : Logic 𝓤) (x : Held.Denot) where
    -- what the fields of a struct with one badge own
    abbrev Fields : List Val → Valss (Held ∷ []) → base.Fml.Fml
    Fields us vss = fsep (feq (List Val) us (vstruct (mir.Val.of_list (flat (Held ∷ []) vss)) ∷ [])) (owns (Held ∷ []) (x, tt) vss)

    pub puts : ent 𝓤 (sem 𝓛 (Held.own_val x (token_val ∷ []))) (sem 𝓛 (Put.own_val (record { badge = x }) (put_value ∷ [])))
    puts = qed 𝓛 (‵ (Held.own_val x (token_val ∷ [])) ∷ []) ∵
        nothing ! $ move ! (1 ∷ 0 ∷ []) $ fjoin ! $ feq_i ! (List Val) (put_value ∷ []) (put_value ∷ []) refl $ fjoin ! $
        fpack ! (Valss (Held ∷ [])) (Fields (put_value ∷ [])) (token_val ∷ [], tt) $ nothing ! $ move ! (1 ∷ 0 ∷ []) $ fjoin ! $ done !

    pub takes_out : ent 𝓤 (sem 𝓛 (Put.own_val (record { badge = x }) (put_value ∷ []))) (sem 𝓛 (Held.own_val x (token_val ∷ [])))
    takes_out = qed 𝓛 (‵ (Put.own_val (record { badge = x }) (put_value ∷ [])) ∷ []) ∵
        fsplit ! $ fpick ! (λ vss. fsplit3 ! $ keep ! (1 ∷ []) $ peeks ! Held (Is Held) (shows 𝓛 Held) x vss.0 (λ is.
        rewrite ! 0 (λ (vs : List Val). ‵ (Held.own_val x vs)) (held_told x vss.0 is) refl $ done !))
