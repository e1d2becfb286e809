-- A badge is put away: one struct is made of it.
use Rattle.std.proofs.Common.{[], ◌∷◌, refl}
use mir.Syntax.{a_type, Fn}
use mir.MapTy.{inst_fn}
use types.Kit.{‵, raw, ◌⊛◌, ◌$◌, ◌∵◌, !, qed, keep, move, split, fsplit, use1, join, suffices, done}
use types.Run.{no_more, and_then, of_opd, enter, returns}
use types.ByLocal.{alloc_all, pass_all, free_all, look_at, get, sets}
use types.Part.{agg}
use denote.Exit.{no}
use denote.Param.{param, layouts}
use denote.RattleType.{RattleType, owns}
use denote.Signature.{plain, types_at}
use denote.Steps.{nothing}
use denote.Triple.Entry.{alive}
use denote.Triple.Walked.{Stays, walk_of, says, stay_dropped, Goes-dropped, ends_at}
use Rattle.atomic_table.proofs.Fields.{token_val}
use Rattle.atomic_table.proofs.Walks.{proved}
use Rattle.turn_lock.specs.contracts.own_seat.OwnSeat.new as new
use Rattle.turn_lock.specs.contracts.own_seat.OwnSeat.new.Key.{name}
use Rattle.turn_lock.proofs.PutAway.{put_value, Held, Put, held_told, puts}
use Rattle.turn_lock.proofs.own_seat.OwnSeat.new.Statement.{statement}
use Rattle.turn_lock.proofs.own_seat.OwnSeat.new.Code as code

abbrev stays : (V : RattleType) → Stays (new.signature V).params (new.ended V).kept
stays V = (stay_dropped (plain (λ _. Held (param 0 V))) no, tt)

pub new_spec : {M : Type 1} → statement M
new_spec 𝓤 𝓛 𝓜 𝓡 wired V _ =
    let c = new.clauses V 𝓛 𝓜.mem 𝓡.returns in let T : RattleType = param 0 V in let fn : Fn = inst_fn (layouts (a_type ∷ []) (V, tt)) code.function in
    proved 𝓛 (new.ended V) (stays V) c 𝓜 𝓡 (Goes-dropped 𝓛 1 (plain (λ _. Held T)) no (λ κs x w. refl), tt)
    (name (layouts (a_type ∷ []) (V, tt))) fn (code.unfolded 𝓤 𝓛.H 𝓜 𝓡 wired (V, tt))
    (λ κs. ((λ _. token_val ∷ []), tt)) (λ κs. (held_told T, tt)) (λ κs qs bounds a ghost are.
    let y : (walk_of 𝓛 (new.ended V) (stays V) c).Ghost = ((κs, qs, bounds, a, (token_val ∷ [], tt)), ghost) in let made : (Put T).Denot = record { badge = a.0 } in
    qed 𝓛 ((raw (alive 𝓛 (new.signature V) κs qs) ⊛ ‵ (owns (types_at (new.signature V).params κs) a y.0.4)) ∷ raw ((c κs a).requires ghost) ∷ []) ∵
    split ! $ keep ! (0 ∷ 1 ∷ []) $ move ! (1 ∷ []) $ fsplit ! $ keep ! (0 ∷ 2 ∷ []) $ use1 𝓛 (‵ ((Put T).own_val made (put_value ∷ []))) (puts T 𝓛 a.0) $
    -- [what the struct owns; the tokens]
    enter ! _ _ _ _ _ $ alloc_all ! (λ l. pass_all ! refl ((tt, (tt, tt)), tt) $
    sets ! (of_opd ! (get ! refl)) refl (tt, (tt, tt)) $ sets ! (agg ! (and_then ! (get ! refl) (no_more !))) refl (tt, ((tt, tt), tt)) $
    returns ! (look_at ! 0 refl) $ free_all ! refl $ suffices ! _ (ends_at 𝓛 (new.ended V) (stays V) c y put_value made (tt, tt) (tt, tt)) $ says ! refl $
    nothing ! $ nothing ! $ join ! $ move ! (2 ∷ []) $ done !))
