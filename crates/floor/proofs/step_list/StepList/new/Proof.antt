-- No steps are a struct without a field.
use Rattle.std.proofs.Common.{[], ◌∷◌, refl}
use mir.Val.{vstruct, vnil}
use types.Kit.{‵, raw, ◌⊛◌, ◌$◌, ◌∵◌, !, qed, keep, move, split, suffices, done}
use types.Run.{no_more, enter, returns}
use types.ByLocal.{alloc_all, pass_all, free_all, look_at, sets}
use types.Part.{agg}
use denote.RattleType.{owns}
use denote.Shadow.{pure_i}
use denote.Signature.{types_at}
use denote.Triple.Entry.{alive}
use denote.Triple.Walked.{walk_of, says, ends_at}
use Rattle.atomic_table.proofs.Walks.{proved}
use Rattle.floor.specs.declared.step_list.StepList.{StepList}
use Rattle.floor.specs.contracts.step_list.StepList.{the_row}
use Rattle.floor.specs.contracts.step_list.StepList.new as new
use Rattle.floor.specs.contracts.step_list.StepList.new.Key.{name}
use Rattle.floor.proofs.step_list.StepList.new.Statement.{statement}
use Rattle.floor.proofs.step_list.StepList.new.Code as code

pub new_spec : {M : Type 1} → statement M
new_spec 𝓤 𝓛 𝓜 𝓡 wired =
    let c = new.clauses 𝓛 𝓜.mem 𝓡.returns in
    proved 𝓛 new.ended tt c 𝓜 𝓡 tt name code.function (code.unfolded 𝓤 𝓛.H 𝓜 𝓡 wired) (λ κs. tt) (λ κs. tt) (λ κs qs bounds a ghost are.
    let y : (walk_of 𝓛 new.ended tt c).Ghost = ((κs, qs, bounds, a, tt), ghost) in let made : StepList = record { items = [] } in
    qed 𝓛 ((raw (alive 𝓛 new.signature κs qs) ⊛ ‵ (owns (types_at new.signature.params κs) a y.0.4)) ∷ raw ((c κs a).requires ghost) ∷ []) ∵
    keep ! (0 ∷ []) $ split ! $ enter ! _ _ _ _ _ $ alloc_all ! (λ l. pass_all ! refl tt $ sets ! (agg ! (no_more !)) refl (tt, tt) $
    returns ! (look_at ! 0 refl) $ free_all ! refl $ suffices ! _ (ends_at 𝓛 new.ended tt c y (vstruct vnil) made tt tt) $ says ! refl $
    pure_i ! (the_row.own_val made (vstruct vnil ∷ [])) ((λ vss. (tt, tt)), tt) ((tt, (refl, tt)), tt) $ move ! (1 ∷ 2 ∷ 0 ∷ []) $ done !))
