-- How much a disk tells.
use Rattle.disk_model.specs.Words.{Telling, Nothing, Contents, Images, TellsContents, TellsImages}

pub contents_too : (t : Telling) → TellsImages t → TellsContents t
contents_too Nothing told = told
contents_too Contents told = tt
contents_too Images told = tt
