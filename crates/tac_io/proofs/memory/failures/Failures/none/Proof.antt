-- No failures are a struct without a field.
use Rattle.std.proofs.Common.{[], ◌∷◌, refl}
use mir.Val.{vstruct, vnil}
use types.Kit.{‵, raw, ◌⊛◌, ◌$◌, ◌∵◌, !, qed, keep, move, split, suffices, done}
use types.Run.{no_more, enter, returns}
use types.ByLocal.{alloc_all, pass_all, free_all, look_at, sets}
use types.Part.{agg}
use denote.RattleType.{owns}
use denote.Shadow.{pure_i}
use denote.Signature.{types_at}
use denote.Triple.Entry.{alive}
use denote.Triple.Walked.{walk_of, says, ends_at}
use Rattle.std.proofs.raw_atomic.Walks.{proved}
use Rattle.tac_io.specs.declared.memory.failures.Failures.{Failures}
use Rattle.tac_io.specs.contracts.memory.failures.Failures.{the_row}
use Rattle.tac_io.specs.contracts.memory.failures.Failures.none as none
use Rattle.tac_io.specs.contracts.memory.failures.Failures.none.Key.{name}
use Rattle.tac_io.proofs.memory.failures.Failures.none.Statement.{statement}
use Rattle.tac_io.proofs.memory.failures.Failures.none.Code as code

pub none_spec : {M : Type 1} → statement M
none_spec 𝓤 𝓛 𝓜 𝓡 wired =
    let c = none.clauses 𝓛 𝓜.mem 𝓡.returns in
    proved 𝓛 none.ended tt c 𝓜 𝓡 tt name code.function (code.unfolded 𝓤 𝓛.H 𝓜 𝓡 wired) (λ κs. tt) (λ κs. tt) (λ κs qs bounds a ghost are.
    let y : (walk_of 𝓛 none.ended tt c).Ghost = ((κs, qs, bounds, a, tt), ghost) in let made : Failures = record { places = [] } in
    qed 𝓛 ((raw (alive 𝓛 none.signature κs qs) ⊛ ‵ (owns (types_at none.signature.params κs) a y.0.4)) ∷ raw ((c κs a).requires ghost) ∷ []) ∵
    keep ! (0 ∷ []) $ split ! $ enter ! _ _ _ _ _ $ alloc_all ! (λ l. pass_all ! refl tt $ sets ! (agg ! (no_more !)) refl (tt, tt) $
    returns ! (look_at ! 0 refl) $ free_all ! refl $ suffices ! _ (ends_at 𝓛 none.ended tt c y (vstruct vnil) made tt tt) $ says ! refl $
    pure_i ! (the_row.own_val made (vstruct vnil ∷ [])) ((λ vss. (tt, tt)), tt) ((tt, (refl, tt)), tt) $ move ! (1 ∷ 2 ∷ 0 ∷ []) $ done !))
