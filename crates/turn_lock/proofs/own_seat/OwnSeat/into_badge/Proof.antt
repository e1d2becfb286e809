-- A badge is taken out again: it is the one field of the struct.
use Rattle.std.proofs.Common.{[], ◌∷◌, refl}
use Rattle.std.proofs.alloc.Calls.{Goes-blank}
use mir.Syntax.{a_type, Fn}
use mir.MapTy.{inst_fn}
use types.Kit.{‵, raw, ◌⊛◌, ◌$◌, ◌∵◌, !, qed, keep, move, split, fsplit, use1, join, suffices, done}
use types.Run.{stop, fld, of_opd, enter, returns}
use types.ByLocal.{alloc_all, pass_all, free_all, look_at, get, get_in, sets}
use types.Part.{sub, whole}
use denote.Exit.{no}
use denote.Param.{param, layouts}
use denote.RattleType.{RattleType, owns}
use denote.Signature.{plain, types_at}
use denote.Steps.{nothing}
use denote.Triple.Entry.{alive}
use denote.Triple.Walked.{Stays, walk_of, says, stay_dropped, ends_at}
use Rattle.atomic_table.proofs.Fields.{token_val}
use Rattle.atomic_table.proofs.Walks.{proved}
use Rattle.turn_lock.specs.contracts.own_seat.OwnSeat.into_badge as into_badge
use Rattle.turn_lock.specs.contracts.own_seat.OwnSeat.into_badge.Key.{name}
use Rattle.turn_lock.proofs.PutAway.{put_value, Held, Put, put_told, takes_out}
use Rattle.turn_lock.proofs.own_seat.OwnSeat.into_badge.Statement.{statement}
use Rattle.turn_lock.proofs.own_seat.OwnSeat.into_badge.Code as code

abbrev stays : (V : RattleType) → Stays (into_badge.signature V).params (into_badge.ended V).kept
stays V = (stay_dropped (plain (λ _. Put (param 0 V))) no, tt)

pub into_badge_spec : {M : Type 1} → statement M
into_badge_spec 𝓤 𝓛 𝓜 𝓡 wired V _ =
    let c = into_badge.clauses V 𝓛 𝓜.mem 𝓡.returns in let T : RattleType = param 0 V in let fn : Fn = inst_fn (layouts (a_type ∷ []) (V, tt)) code.function in
    proved 𝓛 (into_badge.ended V) (stays V) c 𝓜 𝓡 (Goes-blank 𝓛 1 (plain (λ _. Put T)) no (λ κs x w. tt), tt)
    (name (layouts (a_type ∷ []) (V, tt))) fn (code.unfolded 𝓤 𝓛.H 𝓜 𝓡 wired (V, tt))
    (λ κs. ((λ _. put_value ∷ []), tt)) (λ κs. (put_told T, tt)) (λ κs qs bounds a ghost are.
    let y : (walk_of 𝓛 (into_badge.ended V) (stays V) c).Ghost = ((κs, qs, bounds, a, (put_value ∷ [], tt)), ghost) in let out : (Held T).Denot = a.0.badge in
    qed 𝓛 ((raw (alive 𝓛 (into_badge.signature V) κs qs) ⊛ ‵ (owns (types_at (into_badge.signature V).params κs) a y.0.4)) ∷ raw ((c κs a).requires ghost) ∷ []) ∵
    split ! $ keep ! (0 ∷ 1 ∷ []) $ move ! (1 ∷ []) $ fsplit ! $ keep ! (0 ∷ 2 ∷ []) $ use1 𝓛 (‵ ((Held T).own_val out (token_val ∷ []))) (takes_out T 𝓛 out) $
    -- [what the badge owns; the tokens]
    enter ! _ _ _ _ _ $ alloc_all ! (λ l. pass_all ! refl ((tt, ((tt, tt), tt)), tt) $
    sets ! (of_opd ! (get_in ! (fld ! refl (stop !)) (sub ! 0 refl (whole !)))) refl (tt, (tt, tt)) $ sets ! (of_opd ! (get ! refl)) refl (tt, (tt, tt)) $
    returns ! (look_at ! 0 refl) $ free_all ! refl $ suffices ! _ (ends_at 𝓛 (into_badge.ended V) (stays V) c y token_val out ((tt, tt), tt) (tt, tt)) $ says ! refl $
    nothing ! $ nothing ! $ join ! $ move ! (2 ∷ []) $ done !))
