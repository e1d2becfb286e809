use Rattle.std.proofs.Common.{◌≡◌, ℕ, ◌-◌, [], ◌++◌, get_or, sym, subst, arith}
use Rattle.game_text.specs.{client_text, GameFile}
use Rattle.game_text.proofs.AgentLineLaws.{IsAppended, endow_appended, client_appended}
use Rattle.game_text.proofs.agent_lines.print_agent_line.Goals as goal

pub returns-then-n-eq0 : goal.returns-then-n-eq0
returns-then-n-eq0 c =
    let fields = c.game.inside in
    let game : GameFile = record { version = fields.version; words = fields.words; flights = fields.flights; order = fields.order; rooms = fields.rooms; live = fields.live; endow = fields.endow; clients = fields.clients } in
    let old = c.args.out.now in
    let new = c.print_endowment.new.out in
    let first = endow_appended game c.get-who.result old new c.game.invariant c.get-who.ensures.range c.print_endowment.ensures.text in
    let asked = subst (λ (n : ℕ). IsAppended game c.get-who.result n old new) (sym c.if-n-eq0.true) first in
    let owned = subst (λ (a : ℕ). IsAppended game a c.args.n old new) c.get-who.ensures.value asked in
    let done = subst (λ (g : GameFile). IsAppended g c.args.agent c.args.n old new) c.game.view_is owned in
    record { text = done.text; len = done.len; one_line = done.one_line; count = done.count }

pub returns-else-n-eq0 : goal.returns-else-n-eq0
returns-else-n-eq0 c =
    let fields = c.game.inside in
    let game : GameFile = record { version = fields.version; words = fields.words; flights = fields.flights; order = fields.order; rooms = fields.rooms; live = fields.live; endow = fields.endow; clients = fields.clients } in
    let old = c.args.out.now in
    let new = c.print_client.new.out in
    let who = c.get-who.result in
    let client = c.args.n - 1 in
    let some = c.index-game-who.result in
    let text : new ≡ old ++ client_text who client (get_or (get_or game.clients who []) client some) = c.print_client.ensures.text in
    let next = client_appended game who client some old new c.game.invariant c.get-who.ensures.range (omega arith) text in
    let asked = subst (λ (n : ℕ). IsAppended game who n old new) (omega arith) next in
    let owned = subst (λ (a : ℕ). IsAppended game a c.args.n old new) c.get-who.ensures.value asked in
    let done = subst (λ (g : GameFile). IsAppended g c.args.agent c.args.n old new) c.game.view_is owned in
    record { text = done.text; len = done.len; one_line = done.one_line; count = done.count }
