use Rattle.std.proofs.Common.{rules, ◌≡◌, ℕ, ◌+◌, ◌<◌, ◌≤◌, [], ◌∷◌, ◌++◌, length, get_or, set, sym, ◌∙◌, subst, slice_index, ◌==◌}
use Rattle.game_text.specs.Games.{GameFile}
use Rattle.script_run.specs.{GameState, reading_of, AreCounted}
use Rattle.script_run.proofs.Counted.{count_set, one_if}
use Rattle.script_run.proofs.Tables.{read_room, counted_read}
use Rattle.script_run.proofs.game.table.Table.read.Goals as goal

pub read-position-requires : goal.read-position-requires
read-position-requires c =
    let t = c.self.inside in
    let low : c.args.agent ≤ 7 = search rules in
    let few : slice_index t.readings c.args.agent < 1024 =
    subst (λ (n : ℕ). slice_index t.readings n < 1024) (c.from-place.ensures ∙ c.get.ensures.value) c.if-count-ge-CASH_READINGS.false in
    read_room t.open.game t.open.state t.calls t.readings c.args.agent c.self.invariant low few

pub invariant_of-self : goal.invariant_of-self
invariant_of-self c =
    let t = c.self.inside in
    let low : c.args.agent ≤ 7 = search rules in
    let place = c.from-place.ensures ∙ c.get.ensures.value in
    let few : slice_index t.readings c.args.agent < 1024 = subst (λ (n : ℕ). slice_index t.readings n < 1024) place c.if-count-ge-CASH_READINGS.false in
    let inside : c.from-place.result < length t.readings = search rules in
    let read' = set t.readings c.from-place.result (get_or t.readings c.from-place.result 0 + 1) in
    let more : (other : ℕ) → other ≤ 7 → slice_index read' other ≡ slice_index t.readings other + one_if (c.args.agent == other) =
    λ other le. count_set t.readings c.from-place.result other inside ∙ (λ i. get_or t.readings other 0 + one_if (place i == other)) in
    let next = counted_read t.open.game t.open.state t.calls t.readings read' c.args.agent c.self.invariant low few more in
    let e = c.read-position.ensures in
    let state : c.read-position.new.self.state ≡ record { pasts = t.open.state.pasts; cash = t.open.state.cash ++ reading_of t.open.state.cash c.args.agent ∷ []; ticks = t.open.state.ticks } =
    (λ i. record { pasts = e.pasts i; cash = e.cash i; ticks = e.ticks i }) in
    subst (λ (seen : GameFile × GameState). AreCounted seen.0 seen.1 t.calls read') (sym (λ i. (e.game i, state i))) next
