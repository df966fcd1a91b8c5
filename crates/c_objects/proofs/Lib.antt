-- the words of objects of file scope
mod Words
