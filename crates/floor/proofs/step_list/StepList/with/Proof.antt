-- Steps with one more are made anew, and nothing is read.
use Rattle.std.proofs.Common.{[], ◌∷◌, ◌++◌, refl}
use mir.Syntax.{named}
use mir.Val.{Val, vptr, vstruct, vnil}
use types.Kit.{‵, raw, ◌⊛◌, ◌$◌, ◌∵◌, !, qed, keep, move, split, suffices, done}
use types.Run.{no_more, enter, returns}
use types.ByLocal.{alloc_all, pass_all, free_all, look_at, sets}
use types.Part.{agg}
use denote.Exit.{yes}
use denote.RattleType.{owns}
use denote.Ref.{shr_vals, shr_Tells}
use denote.Shadow.{pure_i}
use denote.Signature.{plain, types_at}
use denote.Triple.Entry.{alive}
use denote.Triple.Walked.{Stays, walk_of, says, stay_none_ref, Goes-none_ref, ends_at}
use Rattle.atomic_table.proofs.Walks.{proved}
use Rattle.floor.specs.declared.step_list.StepList.{StepList}
use Rattle.floor.specs.contracts.step_list.StepList as list
use Rattle.floor.specs.contracts.step_list.StepList.with as with
use Rattle.floor.specs.contracts.step_list.StepList.with.Key.{name}
use Rattle.floor.proofs.step_list.StepList.with.Statement.{statement}
use Rattle.floor.proofs.step_list.StepList.with.Code as code

abbrev stays : Stays with.signature.params with.ended.kept
stays = (stay_none_ref (0 ∷ []) tt (plain (λ _. list.the_row)) yes, tt)

pub with_spec : {M : Type 1} → statement M
with_spec 𝓤 𝓛 𝓜 𝓡 wired =
    let c = with.clauses 𝓛 𝓜.mem 𝓡.returns in
    proved 𝓛 with.ended stays c 𝓜 𝓡 (Goes-none_ref 𝓛 1 (0 ∷ []) tt (plain (λ _. list.the_row)) yes, tt)
    name code.function (code.unfolded 𝓤 𝓛.H 𝓜 𝓡 wired) (λ κs. (shr_vals, tt))
    (λ κs. (shr_Tells (named 0) κs.0 list.the_row, tt))
    (λ κs qs bounds a ghost are.
    let u : Val = vptr a.0.ref_ptr.0 a.0.ref_ptr.1 in
    let y : (walk_of 𝓛 with.ended stays c).Ghost = ((κs, qs, bounds, a, (u ∷ [], tt)), ghost) in
    let made : StepList = record { items = a.0.now.items ++ ghost ∷ [] } in
    qed 𝓛 ((raw (alive 𝓛 with.signature κs qs) ⊛ ‵ (owns (types_at with.signature.params κs) a y.0.4)) ∷ raw ((c κs a).requires ghost) ∷ []) ∵
    keep ! (0 ∷ []) $ split ! $ enter ! _ _ _ _ _ $ alloc_all ! (λ l. pass_all ! refl ((tt, tt), tt) $ sets ! (agg ! (no_more !)) refl (tt, tt) $
    returns ! (look_at ! 0 refl) $ free_all ! refl $ suffices ! _ (ends_at 𝓛 with.ended stays c y (vstruct vnil) made (tt, tt) (tt, tt)) $ says ! refl $
    pure_i ! (list.the_row.own_val made (vstruct vnil ∷ [])) ((λ vss. (tt, tt)), tt) ((tt, (refl, tt)), tt) $ move ! (1 ∷ 2 ∷ 0 ∷ []) $ done !))
