use Rattle.std.proofs.Common.{refl}
use Rattle.record.specs.Layout.{unpacked}
use Rattle.journal.specs.Log.{tell, view}
use Rattle.journal.proofs.worked.worked_cases.Goals as goal

pub returns : goal.returns
unfolding unpacked tell view
returns c =
    record {
      cases = refl;
      decodes = (refl, (refl, (refl, (refl, (refl, (refl, tt))))));
      numbered = (refl, (refl, (refl, tt)));
      logged = (refl, (refl, (refl, tt)));
    }
