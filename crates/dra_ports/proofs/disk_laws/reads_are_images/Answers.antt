use Rattle.dra_ports.proofs.DiskReads.{image_write, image_cut, image_sync, image_after_sync, image_exact}
use Rattle.dra_ports.proofs.disk_laws.reads_are_images.Goals as goal

pub returns-clause-write : goal.returns-clause-write
returns-clause-write c = λ k at from le p. image_write at from k.sure k.bytes le p

pub returns-clause-cut : goal.returns-clause-cut
returns-clause-cut c = λ k len p. image_cut len k.sure k.bytes p

pub returns-clause-sync : goal.returns-clause-sync
returns-clause-sync c = λ k p. image_sync k p

pub returns-clause-only : goal.returns-clause-only
returns-clause-only c = λ k image honest p. image_after_sync k image honest p

pub returns-clause-exact : goal.returns-clause-exact
returns-clause-exact c = λ bytes image p. image_exact bytes image p
