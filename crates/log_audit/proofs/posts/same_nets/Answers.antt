use Rattle.std.proofs.lemmas.Slice.Eq.{slice_eq-Decides}
use Rattle.std.proofs.lemmas.Bool.Decides.{Decides-int_eq}
use Rattle.log_audit.proofs.posts.same_nets.Goals as goal

pub returns : goal.returns
returns c = slice_eq-Decides Decides-int_eq c.args.a.now.dollars c.args.b.now.dollars _ c.eq.ensures
